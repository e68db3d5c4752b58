-- The calls that are made where a Hello is due.
use Rattle.std.proofs.Common.{◌≡◌, ℕ, Bool, true, List, [], ◌∷◌, ◌++◌, map, Option, None, Some, if◌then◌else◌, ap, ◌∙◌}
use Rattle.std.specs.Option.{option_map}
use Rattle.qn_base.specs.declared.calls.Call.{Call}
use Rattle.qn_base.specs.Calls.{blank}
use Rattle.qn_base.specs.Plans.{Ends, ◌>>=◌, Follows}
use Rattle.qn_model.specs.declared.configuration.Settings.{Settings}
use Rattle.qn_model.specs.declared.entries.What.{What}
use Rattle.qn_model.specs.declared.packets.Sent.{Sent}
use Rattle.qn_model.specs.Log.{now}
use Rattle.qn_safety.specs.declared.polls.Poll.{Poll}
use Rattle.qn_member.specs.Naming.{NamingMaker}
use Rattle.qn_member.specs.Announcing.{is_beat}
use Rattle.qn_member.specs.NamingViews.{after_naming_hello_due, is_naming_hello_due, view_announced}
use Rattle.qn_live.specs.Greetings.{hellos_where, is_due, maker_of, sends_plan}
use Rattle.qn_live.specs.Hellos.{hellos_of, send_call}
use Rattle.qn_live.specs.Polling.{poll_call, poll_calls, poll_due, poll_plan, polled}
use Rattle.qn_live.specs.Running.{RunState, Turned, Next}
use Rattle.qn_live.specs.Runs.{asked_maker, greeted, greets}

sends_made : {A : Type 0} (sents : List Sent) (last : A) (calls : List Call) (value : A) → Follows (sends_plan sents >>= (λ sent. Ends last)) calls value
    → map blank calls ≡ map send_call sents
unfolding sends_plan
sends_made [] last calls value follows = ap (map blank) follows.0
sends_made (sent ∷ sents) last [] value follows = absurd follows
sends_made (sent ∷ sents) last (made ∷ calls) value follows =
    ap (λ c. c ∷ map blank calls) follows.0 ∙ ap (λ rest. send_call sent ∷ rest) (sends_made sents last calls value follows.1)

module _ (s : Settings) (me tick : ℕ) where
  -- the view maker after a Hello
  abbrev greeted_by : NamingMaker → Bool → NamingMaker
  greeted_by m due =
      if due
      then record m {
        maker = record m.maker {
          last_hello = if is_beat tick m.maker then Some tick else m.maker.last_hello;
          told = Some (record { tick = tick; said = m.maker.says; view = view_announced m });
        };
        told_stands = m.stands;
      }
      else m

  some_due : (m : NamingMaker) → is_naming_hello_due tick m ≡ true
      → hellos_where (is_due tick (Some m)) s me (option_map (after_naming_hello_due tick) (Some m)) ≡ hellos_of s me m
  some_due m due = ap (λ d. hellos_where d s me (Some (greeted_by m d))) due

  maker_due : (maker : Option NamingMaker) (m : NamingMaker) → maker ≡ Some m → is_naming_hello_due tick m ≡ true
      → hellos_where (is_due tick maker) s me (option_map (after_naming_hello_due tick) maker) ≡ hellos_of s me m
  maker_due maker m is due =
      ap (λ found. hellos_where (is_due tick found) s me (option_map (after_naming_hello_due tick) found)) is ∙ some_due m due

-- the poll goes first
poll_made : {A : Type 0} (poll : Option Poll) (sents : List Sent) (last : A) (calls : List Call) (value : A)
    → Follows (poll_plan poll >>= (λ told. sends_plan sents >>= (λ sent. Ends last))) calls value
    → map blank calls ≡ poll_calls poll ++ map send_call sents
poll_made None sents last calls value follows = sends_made sents last calls value follows
poll_made (Some poll) sents last [] value follows = absurd follows
poll_made (Some poll) sents last (made ∷ calls) value follows =
    ap (λ c. c ∷ map blank calls) follows.0 ∙ ap (λ rest. poll_call poll ∷ rest) (sends_made sents last calls value follows.1)

pub hellos_made : (s : Settings) (me : ℕ) (entry : What) (st : RunState) (m : NamingMaker) (calls : List Call) (next : RunState) → maker_of s me st ≡ Some m
    → is_naming_hello_due (now st.log) m ≡ true → Follows (greeted s me entry st) calls (Next next)
    → map blank calls ≡ poll_calls (poll_due s me true entry (asked_maker s me st)) ++ map send_call (hellos_of s me m)
unfolding greeted
hellos_made s me entry st m calls next is due follows =
    let asked = asked_maker s me st in
    let sents = hellos_where (greets s me st) s me asked.maker in
    let is_sent : greets s me st ≡ true = ap (λ found. is_due (now st.log) found) is ∙ due in
    poll_made {A = Turned} (poll_due s me (greets s me st) entry asked) sents (Next (polled s me (greets s me st) entry asked)) calls (Next next) follows
    ∙ ap (λ (g : Bool). poll_calls (poll_due s me g entry asked) ++ map send_call sents) is_sent
    ∙ ap (λ (l : List Sent). poll_calls (poll_due s me true entry asked) ++ map send_call l)
    (maker_due s me (now st.log) (maker_of s me st) m is due)

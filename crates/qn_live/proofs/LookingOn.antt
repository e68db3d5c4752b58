-- What a run keeps of the last look of its view maker, and that a turn takes no packet where that look is late.
use Rattle.std.proofs.Common.{◌≡◌, ℕ, Bool, true, false, List, [], ◌∷◌, Option, None, Some, if◌then◌else◌, refl, subst}
use Rattle.std.specs.Prelude.{nat_lt}
use Rattle.std.specs.Option.{option_map_or}
use Rattle.qn_base.specs.declared.calls.Call.{Call}
use Rattle.qn_base.specs.Plans.{Ends, ◌>>=◌, Follows}
use Rattle.qn_model.specs.declared.configuration.Settings.{Settings}
use Rattle.qn_model.specs.declared.entries.What.{What}
use Rattle.qn_model.specs.declared.outputs.Out.{Out}
use Rattle.qn_model.specs.Log.{now}
use Rattle.qn_model.specs.NodeOutputs.{newest_outs}
use Rattle.qn_member.specs.Naming.{NamingMaker}
use Rattle.qn_live.specs.declared.live_end.LiveEnd.{LiveEnd}
use Rattle.qn_live.specs.declared.live_end.LiveEnd.TheVariants as end
use Rattle.qn_live.specs.declared.place.Choice.{Choice}
use Rattle.qn_live.specs.declared.place.Choice.TheVariants as choice
use Rattle.qn_live.specs.declared.place.Waits.{Waits}
use Rattle.qn_live.specs.Choosing.{choice_plan, is_late, look_after, looking, open_plan, ready}
use Rattle.qn_live.specs.Performing.{end_in, noted, outs_plan}
use Rattle.qn_live.specs.Greetings.{hellos_where, sends_plan}
use Rattle.qn_live.specs.Polling.{answered, answered_at, poll_due, poll_plan, polled}
use Rattle.qn_live.specs.Running.{RunState, Turned, Over, Next}
use Rattle.qn_live.specs.Runs.{asked_maker, clocked, greeted, greets, handled, looked_at, parted, settled, taken}
use Rattle.qn_live.proofs.Always.{Always, always_follows, always_then}
use Rattle.qn_live.proofs.Histories.{poll_always, sends_always}

-- a turn that goes on has this as the tick of the last look
abbrev LooksFrom : ℕ → Turned → Type 0
LooksFrom last (Over end log) = Unit {0}
LooksFrom last (Next next) = next.last_look ≡ last

abbrev KeepsLook : ℕ → RunState → Type 0
KeepsLook last st = st.last_look ≡ last

outs_look : (s : Settings) (me : ℕ) (st : RunState) (outs : List Out) → Always (KeepsLook st.last_look) (outs_plan s me st outs)
unfolding outs_plan
outs_look s me st [] = refl
outs_look s me st (o ∷ outs) = λ call. outs_look s me (noted s o call st) outs

settled_look : (s : Settings) (me : ℕ) (entry : What) (outs : List Out) (st : RunState) (last : ℕ) → st.last_look ≡ last → Always (LooksFrom last) (settled s me entry outs st)
unfolding settled greeted parted
settled_look s me entry outs st last is =
    by_end (end_in entry outs)
  where
    by_end : (found : Option LiveEnd) → Always (LooksFrom last) (option_map_or (λ end. parted s me end st) found (greeted s me entry st))
    by_end None =
        let asked = asked_maker s me st in
        let sents = hellos_where (greets s me st) s me asked.maker in
        let poll = poll_due s me (greets s me st) entry asked in
        let next = polled s me (greets s me st) entry asked in
        always_then (λ told. Unit {0}) (LooksFrom last) (poll_plan poll) (λ told. sends_plan sents >>= (λ sent. Ends (Next next))) (poll_always poll)
        (λ told nothing. always_then (λ sent. Unit {0}) (LooksFrom last) (sends_plan sents) (λ sent. Ends (Next next)) (sends_always sents) (λ sent nothing. is))
    by_end (Some end) = always_then (λ sent. Unit {0}) (LooksFrom last) _ _ (sends_always _) (λ sent nothing. tt)

handled_look : (s : Settings) (me : ℕ) (st : RunState) (tick : ℕ) (found : Option NamingMaker × What) → Always (LooksFrom st.last_look) (handled s me st tick found)
unfolding handled
handled_look s me st tick found =
    let after = taken s me st tick found in
    always_then (KeepsLook st.last_look) (LooksFrom st.last_look) (outs_plan s me after (newest_outs after.log)) (settled s me found.1 (newest_outs after.log))
    (outs_look s me after (newest_outs after.log))
    (λ done same. settled_look s me found.1 (newest_outs after.log) done st.last_look same)

clocked_look : (s : Settings) (me : ℕ) (chosen : Choice × RunState) (tick : ℕ) → Always (LooksFrom (looking tick (answered tick chosen)).last_look) (clocked s me chosen tick)
unfolding clocked
clocked_look s me chosen tick =
    by_clock (nat_lt tick (now chosen.1.log))
  where
    by_clock : (back : Bool) → Always (LooksFrom (looking tick (answered tick chosen)).last_look) (if back then Ends (Over (end.ClockBack (now chosen.1.log) tick) chosen.1.log) else handled s me (looking tick (answered tick chosen)) tick (looked_at tick (answered tick chosen)))
    by_clock true = tt
    by_clock false = handled_look s me (looking tick (answered tick chosen)) tick (looked_at tick (answered tick chosen))

pub look_kept : (s : Settings) (me : ℕ) (choice : Choice) (st : RunState) (tick : ℕ) (calls : List Call) (next : RunState) → Follows (clocked s me (choice, st) tick) calls (Next next)
    → next.last_look ≡ look_after tick (answered_at tick st.poller choice) st.maker st.last_look
look_kept s me choice st tick calls next follows =
    always_follows (LooksFrom (look_after tick (answered_at tick st.poller choice) st.maker st.last_look)) (clocked s me (choice, st) tick) calls (Next next) (clocked_look s me (choice, st) tick) follows

-- what a turn takes whose last look is late
pub late_takes_none : (me : ℕ) (leaves : Bool) (st : RunState) (calls : List Call) (chosen : Choice × RunState)
    → is_late st ≡ true → ready leaves st.rests st.waits ≡ None → Follows (choice_plan me leaves st) calls chosen
    → (calls ≡ []) × (chosen ≡ (choice.Open None, st))
unfolding choice_plan
late_takes_none me leaves st calls chosen late none follows =
    subst (λ (l : Bool). Follows (open_plan me st l) calls chosen) late
    (subst
    (λ (found : Option (What × Waits)). Follows (option_map_or (λ taken. Ends (choice.Whole taken.0, record st { waits = taken.1 })) found (open_plan me st (is_late st))) calls chosen)
    none follows)

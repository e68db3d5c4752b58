-- The poller of a running node beside the one that the world has for it: the world polled no earlier, so it takes what the node takes.
use Rattle.std.proofs.Common.{◌≡◌, ◌≤◌, ℕ, zero, suc, Bool, true, false, not, ◌+◌, ◌&&◌, ◌||◌, ◌==◌, List, [], ◌∷◌, Option, None, Some, if◌then◌else◌, is_some, refl, sym, ap, subst, ◌∙◌, arith, nat_le}
use Rattle.std.specs.Prelude.{Contains, option_map, option_and_then, nat_lt}
use Rattle.std.specs.Option.{option_map_or, option_or}
use Rattle.std.proofs.lemmas.Bool.{eqb-true, le-leb, leb-true, not-true}
use Rattle.std.proofs.lemmas.Option.{same_Some}
use Rattle.qn_base.specs.declared.calls.Call.{Call}
use Rattle.qn_base.specs.declared.ids.View.{View}
use Rattle.qn_base.specs.lemmas.Bools.{first_of_both, second_of_both}
use Rattle.qn_base.specs.lemmas.Options.{none_is_not_some}
use Rattle.qn_io.specs.Answered.{received_in, time_of}
use Rattle.qn_model.specs.declared.configuration.Settings.{Settings}
use Rattle.qn_model.specs.declared.entries.What.{What}
use Rattle.qn_model.specs.declared.entries.What.TheVariants as what
use Rattle.qn_model.specs.declared.outputs.DiskOp.{DiskOp}
use Rattle.qn_model.specs.declared.outputs.DiskOp.TheVariants as disk
use Rattle.qn_model.specs.declared.outputs.Out.{Out}
use Rattle.qn_model.specs.declared.outputs.Out.TheVariants as out
use Rattle.qn_model.specs.declared.packets.Packet.{Packet}
use Rattle.qn_model.specs.declared.packets.Sent.{Sent}
use Rattle.qn_model.specs.Log.{now}
use Rattle.qn_model.specs.NodeOutputs.{newest_outs}
use Rattle.qn_model.specs.Steps.{entry_of}
use Rattle.qn_model.specs.Wanted.{rank_of}
use Rattle.qn_model.specs.World.{failed}
use Rattle.qn_member.specs.Naming.{NamingMaker}
use Rattle.qn_member.specs.NamingViews.{answer_at}
use Rattle.qn_safety.specs.declared.polls.Poll.{Poll}
use Rattle.qn_safety.specs.declared.polls.Reply.{Reply}
use Rattle.qn_safety.specs.Poller.{Poller, SentPoll, Standing, answer_taken, is_reply_to, is_taken, next_poll, with_sent, without_last}
use Rattle.qn_live.specs.declared.live_end.LiveEnd.{LiveEnd}
use Rattle.qn_live.specs.declared.place.Choice.{Choice}
use Rattle.qn_live.specs.declared.place.Choice.TheVariants as choice
use Rattle.qn_live.specs.declared.place.Waits.{Waits}
use Rattle.qn_live.specs.declared.words.Own.{Own}
use Rattle.qn_live.specs.Choosing.{choice_of, choice_where, is_entry_for, is_late, is_to_leave, looked, looking, own_of, packet_in, ready, told, view_or_tick}
use Rattle.qn_live.specs.Performing.{done, end_in, noted, waits_after}
use Rattle.qn_live.specs.Polling.{answered, choice_beside, is_device, is_view_entry, poller_after, reply_in, shown, shown_due}
use Rattle.qn_live.specs.Running.{RunState}
use Rattle.qn_live.specs.Runs.{asked_maker, greets, looked_at, taken}
use Rattle.qn_joined.specs.Stands.{Spot, Receiving, Looking, Acting, Polling, Saying, Parting, Ended, acts_at, after_spot, begun_at, clocked_by, farewells_due, greeted_at, opening, parts_at, polled_at, said_at, sends_due, settled_by, taking}

-- the node's poller is the world's, which polled no earlier; the world's may remember a poll that the node forgot
pub record PollsAs (run world : Poller) : Type 0 where
  pub limit : world.limit ≡ run.limit
  pub count : world.count ≡ run.count
  pub last : (sent : SentPoll) → run.last ≡ Some sent → (tick : ℕ) × (sent.tick ≤ tick) × (world.last ≡ Some (record { tick = tick; poll = sent.poll }))

-- no answer of the device waits
abbrev pub is_no_device : Option What → Bool
is_no_device None = true
is_no_device (Some answer) = not (is_device answer)

-- a state polls as the world does
pub record IsPolling (st : RunState) (world : Poller) : Type 0 where
  pub poller : Poller
  pub has : st.poller ≡ Some poller
  pub alike : PollsAs poller world
  pub calm : is_no_device st.waits.disk ≡ true

-- a state whose poll the world is still to send
pub record IsToPoll (s : Settings) (rank : ℕ) (world : Poller) (poll : Poll) (st : RunState) : Type 0 where
  pub before : Poller
  pub at : Standing
  pub shows : shown s st.log ≡ Some at
  pub has : st.poller ≡ Some (with_sent (rank_of rank) at before)
  pub is : poll ≡ next_poll (rank_of rank) at before
  pub alike : PollsAs before world
  pub calm : is_no_device st.waits.disk ≡ true

-- what a turn takes: a reply that was sent to the rank, or else no answer of the device
abbrev pub ChoiceAs : ℕ → List Reply → Choice → Type 0
ChoiceAs rank replies (choice.Whole entry) = is_device entry ≡ false
ChoiceAs rank replies (choice.Open p) = Unit {0}
ChoiceAs rank replies (choice.Answer reply) = (reply.to.0 ≡ rank) × Contains replies reply

-- where a run stands it polls as the world does; of a poll that is to be sent this is known
abbrev pub SpotWith : (Poll → RunState → Type 0) → ℕ → List Reply → Poller → Spot → Type 0
SpotWith Q rank replies world (Receiving st) = IsPolling st world
SpotWith Q rank replies world (Looking chosen) = IsPolling chosen.1 world × ChoiceAs rank replies chosen.0
SpotWith Q rank replies world (Acting entry outs o rest st) = IsPolling st world
SpotWith Q rank replies world (Polling poll sents st) = Q poll st
SpotWith Q rank replies world (Saying sent rest st) = IsPolling st world
SpotWith Q rank replies world (Parting end sent rest st) = Unit {0}
SpotWith Q rank replies world (Ended ran) = Unit {0}

-- the poll that is to be sent was sent in the world
abbrev pub WasPolled : List Poll → Poller → Poll → RunState → Type 0
WasPolled polls world poll st = IsPolling st world × Contains polls poll

abbrev pub SpotAs : ℕ → List Poll → List Reply → Poller → Spot → Type 0
SpotAs rank polls replies world spot = SpotWith (WasPolled polls world) rank replies world spot

-- ## What a state keeps

-- other answers that wait, none of which is the device's
with_waits : {st : RunState} {world : Poller} (waits : Waits) → is_no_device waits.disk ≡ true → IsPolling st world → IsPolling (record st { waits = waits }) world
with_waits waits calm is = record { poller = is.poller; has = is.has; alike = is.alike; calm = calm }

-- what a turn takes by itself is no answer of the device
abbrev TakesPlainly : Option (What × Waits) → Type 0
TakesPlainly None = Unit {0}
TakesPlainly (Some taken) = (is_device taken.0 ≡ false) × (is_no_device taken.1.disk ≡ true)

leaves_plainly : (leaves : Bool) (waits : Waits) → is_no_device waits.disk ≡ true → TakesPlainly (if leaves then Some (what.Leave, waits) else None)
leaves_plainly true waits calm = (refl, calm)
leaves_plainly false waits calm = tt

takes_plainly : (stopped : Option Bool) (disk : Option What) (leaves rests : Bool) (waits : Waits) → is_no_device waits.disk ≡ true → is_no_device disk ≡ true
    → TakesPlainly (option_or
    (option_map (λ ok. (what.Stopped ok, record waits { stopped = None })) stopped)
    (option_or (if rests then None else option_map (λ answer. (answer, record waits { disk = None })) disk) (if leaves then Some (what.Leave, waits) else None)))
takes_plainly (Some ok) disk leaves rests waits calm none = (refl, calm)
takes_plainly None disk leaves true waits calm none = leaves_plainly leaves waits calm
takes_plainly None None leaves false waits calm none = leaves_plainly leaves waits calm
takes_plainly None (Some answer) leaves false waits calm none = (not-true (is_device answer) none, refl)

-- the answer of a disk operation is none of the device
failed_plainly : (op : DiskOp) → is_device (failed op) ≡ false
unfolding failed
failed_plainly disk.ReadHeader = refl
failed_plainly (disk.ReadSlot rank) = refl
failed_plainly disk.CheckMail = refl
failed_plainly disk.ReadMail = refl
failed_plainly (disk.WriteClaim number) = refl
failed_plainly (disk.WriteClose number) = refl
failed_plainly disk.WriteClear = refl
failed_plainly (disk.WriteReset rank) = refl

done_plainly : (s : Settings) (op : DiskOp) (bytes : List ℕ) → is_device (done s op bytes) ≡ false
unfolding done
done_plainly s disk.ReadHeader bytes = refl
done_plainly s (disk.ReadSlot rank) bytes = refl
done_plainly s disk.CheckMail bytes = refl
done_plainly s disk.ReadMail bytes = refl
done_plainly s (disk.WriteClaim number) bytes = refl
done_plainly s (disk.WriteClose number) bytes = refl
done_plainly s disk.WriteClear bytes = refl
done_plainly s (disk.WriteReset rank) bytes = refl

answers_plainly : (s : Settings) (op : DiskOp) (bytes : List ℕ) (fails : Bool) → not (is_device (if fails then failed op else done s op bytes)) ≡ true
answers_plainly s op bytes true = ap not (failed_plainly op)
answers_plainly s op bytes false = ap not (done_plainly s op bytes)

-- a call of an output leaves the poller
pub notes : {st : RunState} {world : Poller} (s : Settings) (o : Out) (made : Call) → IsPolling st world → IsPolling (noted s o made st) world
unfolding waits_after
notes s out.Stop made is = with_waits _ is.calm is
notes s (out.Disk op) made is = with_waits _ (answers_plainly s op _ _) is
notes s out.Start made is = with_waits _ is.calm is
notes s out.Feed made is = with_waits _ is.calm is
notes s (out.Send to p) made is = with_waits _ is.calm is
notes s out.Disarm made is = with_waits _ is.calm is
notes s (out.Halt kind) made is = with_waits _ is.calm is

-- ## Where a run stands after a call

module _ (s : Settings) (me : ℕ) (leave : Option ℕ) (replies : List Reply) (world : Poller) where
  abbrev Soon : Spot → Type 0
  Soon spot = SpotWith (IsToPoll s me world) me replies world spot

  opens : (st : RunState) (late : Bool) → IsPolling st world → Soon (opening st late)
  opens st true is = (is, tt)
  opens st false is = is

  takes : (st : RunState) (found : Option (What × Waits)) → TakesPlainly found → IsPolling st world → Soon (taking st found)
  takes st None plain is = opens st (is_late st) is
  takes st (Some taken) plain is = (with_waits taken.1 plain.1 is, plain.0)

  begins : (turn more : ℕ) (st : RunState) → IsPolling st world → Soon (begun_at s me leave turn more st).spot
  begins turn zero st is = tt
  begins turn (suc more) st is =
      takes st (ready (is_to_leave s leave turn st) st.rests st.waits) (takes_plainly st.waits.stopped st.waits.disk (is_to_leave s leave turn st) st.rests st.waits is.calm is.calm) is

  says : (turn more : ℕ) (st : RunState) (sents : List Sent) → IsPolling st world → Soon (said_at s me leave turn more st sents).spot
  says turn more st [] is = begins turn more st is
  says turn more st (sent ∷ rest) is = is

  parts : (turn more : ℕ) (end : LiveEnd) (st : RunState) (sents : List Sent) → Soon (parts_at turn more end st sents).spot
  parts turn more end st [] = tt
  parts turn more end st (sent ∷ rest) = tt

  shows_then : (test : Bool) (found : Option Standing) (at : Standing) → (if test then found else None) ≡ Some at → found ≡ Some at
  shows_then true found at e = e
  shows_then false found at e = none_is_not_some at e

  greets_then : (turn more : ℕ) (entry : What) (st : RunState) → IsPolling st world → Soon (greeted_at s me leave turn more entry st).spot
  greets_then turn more entry st is =
      by_shown st.poller is.has (shown_due s (greets s me st) entry (asked_maker s me st)) refl
    where
      asked : RunState
      asked = asked_maker s me st

      by_shown : (o : Option Poller) → o ≡ Some is.poller → (found : Option Standing) → shown_due s (greets s me st) entry asked ≡ found
          → Soon (polled_at s me leave turn more
          (record asked { poller = option_map (λ poller. option_map_or (λ at. with_sent (rank_of me) at poller) found poller) o })
          (sends_due s me st) (option_and_then (λ poller. option_map (λ at. next_poll (rank_of me) at poller) found) o)).spot
      by_shown None e found shows = none_is_not_some is.poller e
      by_shown (Some p) e None shows =
          says turn more _ (sends_due s me st) (record { poller = p; has = refl; alike = subst (λ x. PollsAs x world) (sym (same_Some p is.poller e)) is.alike; calm = is.calm })
      by_shown (Some p) e (Some at) shows = record {
        before = p;
        at = at;
        shows = shows_then _ (shown s st.log) at shows;
        has = refl;
        is = refl;
        alike = subst (λ x. PollsAs x world) (sym (same_Some p is.poller e)) is.alike;
        calm = is.calm;
      }

  settles : (turn more : ℕ) (entry : What) (st : RunState) (end : Option LiveEnd) → IsPolling st world → Soon (settled_by s me leave turn more entry st end).spot
  settles turn more entry st None is = greets_then turn more entry st is
  settles turn more entry st (Some end) is = parts turn more end st (farewells_due s me end st)

  acts : (turn more : ℕ) (entry : What) (outs rest : List Out) (st : RunState) → IsPolling st world → Soon (acts_at s me leave turn more entry outs rest st).spot
  acts turn more entry outs [] st is = settles turn more entry st (end_in entry outs) is
  acts turn more entry outs (o ∷ rest) st is = is

  -- a packet that comes is a reply that was sent to the rank, or else no answer of the device
  abbrev IsNoAnswer : Choice → Type 0
  IsNoAnswer (choice.Whole entry) = Unit {0}
  IsNoAnswer (choice.Open p) = Unit {0}
  IsNoAnswer (choice.Answer reply) = ⊥

  packet_chooses : (found : Option Packet) → IsNoAnswer (choice_of me found)
  packet_chooses None = tt
  packet_chooses (Some p) = by_test (is_entry_for me p)
    where
      by_test : (b : Bool) → IsNoAnswer (if b then choice.Whole (entry_of p) else choice.Open (Some p))
      by_test true = tt
      by_test false = tt

  chooses : (found : Option Reply) (before : Choice) → IsNoAnswer before → ((reply : Reply) → found ≡ Some reply → reply.to.0 ≡ me → Contains replies reply)
      → ChoiceAs me replies (choice_beside me found before)
  chooses (Some reply) before plain hears = by_receiver (reply.to.0 == me) refl
    where
      by_receiver : (b : Bool) → (reply.to.0 == me) ≡ b → ChoiceAs me replies (if b then choice.Answer reply else choice.Open None)
      by_receiver true e = let mine = eqb-true reply.to.0 me e in (mine, hears reply refl mine)
      by_receiver false e = tt
  chooses None (choice.Whole entry) plain hears = by_device (is_device entry) refl
    where
      by_device : (b : Bool) → is_device entry ≡ b → ChoiceAs me replies (if b then choice.Open None else choice.Whole entry)
      by_device true e = tt
      by_device false e = e
  chooses None (choice.Open p) plain hears = tt
  chooses None (choice.Answer reply) plain hears = absurd plain

  -- what a call that is no look leads to; `hears` is what is known of a reply that it received
  pub after_quiet : (turn more : ℕ) (polls : List Poll) (spot : Spot) (made : Call)
      → ((reply : Reply) → reply_in (received_in made) ≡ Some reply → reply.to.0 ≡ me → Contains replies reply)
      → ((chosen : Choice × RunState) → spot ≡ Looking chosen → ⊥)
      → SpotAs me polls replies world spot → Soon (after_spot s me leave turn more spot made).spot
  unfolding after_spot
  after_quiet turn more polls (Receiving st) made hears quiet is = (
    record { poller = is.poller; has = is.has; alike = is.alike; calm = is.calm },
    subst (λ o. ChoiceAs me replies (choice_where (is_some o) me (received_in made))) (sym is.has)
        (chooses (reply_in (received_in made)) (choice_of me (packet_in (received_in made))) (packet_chooses (packet_in (received_in made))) hears),
  )
  after_quiet turn more polls (Looking chosen) made hears quiet is = absurd (quiet chosen refl)
  after_quiet turn more polls (Acting entry outs o rest st) made hears quiet is = acts turn more entry outs rest (noted s o made st) (notes s o made is)
  after_quiet turn more polls (Polling poll sents st) made hears quiet is = says turn more st sents is.0
  after_quiet turn more polls (Saying sent rest st) made hears quiet is = says turn more st rest is
  after_quiet turn more polls (Parting end sent rest st) made hears quiet is = parts turn more end st rest
  after_quiet turn more polls (Ended ran) made hears quiet is = tt

-- ## A look at the clock

-- what an entry leaves of the world's poller: all of it, or what a view leaves
pub data Leaves (entry : What) (world after : Poller) : Type 0 where
  AsItWas : after ≡ world → Leaves entry world after
  Forgets : is_view_entry entry ≡ true → after ≡ without_last world → Leaves entry world after

without_as : {run world : Poller} → PollsAs run world → PollsAs (without_last run) world
without_as alike = record { limit = alike.limit; count = alike.count; last = λ sent e. none_is_not_some sent e }

-- and of the node's
pub enters : {run world after : Poller} (entry : What) → PollsAs run world → Leaves entry world after
    → (q : Poller) × (poller_after entry (Some run) ≡ Some q) × PollsAs q after
enters {run} {world} {after} entry alike leaves = by_test (is_view_entry entry || is_device entry) refl leaves
  where
    by_test : (b : Bool) → (is_view_entry entry || is_device entry) ≡ b → Leaves entry world after
        → (q : Poller) × ((if b then option_map without_last (Some run) else Some run) ≡ Some q) × PollsAs q after
    by_test true e (AsItWas same) = (without_last run, refl, subst (λ x. PollsAs (without_last run) x) (sym same) (without_as alike))
    by_test true e (Forgets view same) =
        (without_last run, refl, subst (λ x. PollsAs (without_last run) x) (sym same) (record { limit = alike.limit; count = alike.count; last = λ sent none. none_is_not_some sent none }))
    by_test false e (AsItWas same) = (run, refl, subst (λ x. PollsAs run x) (sym same) alike)
    by_test false e (Forgets view same) = absurd (let never = ap (λ b. b || is_device entry) view in let both = sym never ∙ e in cc)

module _ (s : Settings) (me : ℕ) (leave : Option ℕ) (replies : List Reply) (world after : Poller) where
  pub after_look : (turn more tick : ℕ) (chosen : Choice × RunState) (made : Call) → time_of made ≡ tick
      → IsPolling chosen.1 world → Leaves (looked_at tick (answered tick chosen)).1 world after
      → SpotWith (IsToPoll s me after) me replies after (after_spot s me leave turn more (Looking chosen) made).spot
  unfolding after_spot
  after_look turn more tick chosen made told is leaves =
      subst (λ k. SpotWith (IsToPoll s me after) me replies after (clocked_by s me leave turn more chosen k (nat_lt k (now chosen.1.log))).spot) (sym told)
      (by_back (nat_lt tick (now chosen.1.log)))
    where
      entry : What
      entry = (looked_at tick (answered tick chosen)).1

      st : RunState
      st = taken s me (looking tick (answered tick chosen)) tick (looked_at tick (answered tick chosen))

      entered : (q : Poller) × (poller_after entry (Some is.poller) ≡ Some q) × PollsAs q after
      entered = enters entry is.alike leaves

      polls : IsPolling st after
      polls = record {
        poller = entered.0;
        has = ap (poller_after entry) is.has ∙ entered.1;
        alike = entered.2;
        calm = is.calm;
      }

      by_back : (back : Bool) → SpotWith (IsToPoll s me after) me replies after (clocked_by s me leave turn more chosen tick back).spot
      by_back true = tt
      by_back false = acts s me leave replies after turn more entry (newest_outs st.log) (newest_outs st.log) st polls

-- ## An answer of the device

-- the device's answer is that of a reply which was sent to the rank, and which the node's poller takes
pub record Answers (rank tick : ℕ) (replies : List Reply) (poller : Poller) (agrees : Bool) : Type 0 where
  pub reply : Reply
  pub to : reply.to.0 ≡ rank
  pub there : Contains replies reply
  pub takes : answer_taken tick reply poller ≡ Some agrees

opens_no_device : (tick : ℕ) (own : Own) (p : Option Packet) (maker : Option NamingMaker) (agrees : Bool) → (looked tick own (choice.Open p) maker).1 ≡ what.Device agrees → ⊥
opens_no_device tick own p None agrees e = cc
opens_no_device tick own p (Some m) agrees e = by_view (answer_at tick (told tick own p m)) e
  where
    by_view : (o : Option View) → view_or_tick o ≡ what.Device agrees → ⊥
    by_view None same = cc
    by_view (Some view) same = cc

pub answers_device : (rank tick : ℕ) (replies : List Reply) (chosen : Choice) (st : RunState) (agrees : Bool) (poller : Poller) → st.poller ≡ Some poller
    → ChoiceAs rank replies chosen → (looked_at tick (answered tick (chosen, st))).1 ≡ what.Device agrees → Answers rank tick replies poller agrees
answers_device rank tick replies (choice.Whole entry) st agrees poller has plain e = absurd (let is = ap is_device e in let both = sym plain ∙ is in cc)
answers_device rank tick replies (choice.Open p) st agrees poller has plain e =
    absurd (opens_no_device tick (own_of (looking tick (choice.Open p, st))) p st.maker agrees e)
answers_device rank tick replies (choice.Answer reply) st agrees poller has sent e = by_answer (answer_taken tick reply poller) refl
    (subst (λ o. (looked_at tick (option_map_or (λ agrees. choice.Whole (what.Device agrees)) (option_and_then (answer_taken tick reply) o) (choice.Open None), st)).1 ≡ what.Device agrees) has e)
  where
    by_answer : (found : Option Bool) → answer_taken tick reply poller ≡ found
        → (looked_at tick (option_map_or (λ agrees. choice.Whole (what.Device agrees)) found (choice.Open None), st)).1 ≡ what.Device agrees
        → Answers rank tick replies poller agrees
    by_answer None takes is = absurd (opens_no_device tick (own_of (looking tick (choice.Open None, st))) None st.maker agrees is)
    by_answer (Some other) takes is =
        record { reply = reply; to = sent.0; there = sent.1; takes = takes ∙ ap Some (same is) }
      where
        same : what.Device other ≡ what.Device agrees → other ≡ agrees
        same q = cc

-- the world takes what the node takes
pub world_takes : {run world : Poller} (tick : ℕ) (reply : Reply) (agrees : Bool) → PollsAs run world → answer_taken tick reply run ≡ Some agrees → answer_taken tick reply world ≡ Some agrees
world_takes {run} {world} tick reply agrees alike takes = by_last run.last refl takes
  where
    by_last : (o : Option SentPoll) → run.last ≡ o → (if option_map_or (is_taken run.limit tick reply) o false then Some reply.agrees else None) ≡ Some agrees
        → answer_taken tick reply world ≡ Some agrees
    by_last None e none = absurd (none_is_not_some agrees none)
    by_last (Some sent) e some = by_test (is_taken run.limit tick reply sent) refl some
      where
        by_test : (b : Bool) → is_taken run.limit tick reply sent ≡ b → (if b then Some reply.agrees else None) ≡ Some agrees → answer_taken tick reply world ≡ Some agrees
        by_test false never none = absurd (none_is_not_some agrees none)
        by_test true granted same =
            let last = alike.last sent e in
            let young : tick ≤ sent.tick + run.limit = leb-true tick (sent.tick + run.limit) (second_of_both (is_reply_to sent.poll reply) (nat_le tick (sent.tick + run.limit)) granted) in
            let limit = alike.limit in
            let later : sent.tick ≤ last.0 = last.1 in
            let in_time : nat_le tick (last.0 + world.limit) ≡ true = le-leb tick (last.0 + world.limit) (omega arith) in
            ap (λ o. if option_map_or (is_taken world.limit tick reply) o false then Some reply.agrees else None) last.2
            ∙ ap (λ b. if b && nat_le tick (last.0 + world.limit) then Some reply.agrees else None) (first_of_both (is_reply_to sent.poll reply) (nat_le tick (sent.tick + run.limit)) granted)
            ∙ ap (λ b. if b then Some reply.agrees else None) in_time
            ∙ same

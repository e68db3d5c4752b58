-- What a run hands its node is one history, and a turn after a failed answer of the disk takes none.
use Rattle.std.proofs.Common.{◌≡◌, ℕ, suc, zero, Bool, true, false, ◌+◌, ◌-◌, ◌==◌, List, [], ◌∷◌, ◌++◌, Option, None, Some, if◌then◌else◌, refl, sym, ap, subst, ◌∙◌}
use Rattle.std.specs.Prelude.{nat_lt}
use Rattle.std.specs.Option.{option_map_or}
use Rattle.qn_base.specs.declared.calls.Call.{Call}
use Rattle.qn_base.specs.Plans.{Plan, Ends, Asks, Follows, ◌>>=◌}
use Rattle.qn_io.specs.Answered.{received_in, time_of}
use Rattle.qn_model.specs.declared.configuration.Settings.{Settings}
use Rattle.qn_model.specs.declared.packets.Packet.{Packet}
use Rattle.qn_model.specs.declared.packets.Packet.TheVariants as packet
use Rattle.qn_model.specs.declared.packets.Sent.{Sent}
use Rattle.qn_model.specs.declared.entries.Entry.{Entry}
use Rattle.qn_model.specs.declared.entries.What.{What}
use Rattle.qn_model.specs.declared.entries.What.TheVariants as what
use Rattle.qn_model.specs.declared.outputs.Out.{Out}
use Rattle.qn_model.specs.Log.{Line, now}
use Rattle.qn_model.specs.Moments.{begin_of}
use Rattle.qn_model.specs.NodeOutputs.{log_from, newest_outs, with_entry}
use Rattle.qn_model.specs.lemmas.Logs.{log_from-more}
use Rattle.qn_member.specs.Naming.{NamingMaker}
use Rattle.qn_live.specs.declared.live_end.LiveEnd.{LiveEnd}
use Rattle.qn_live.specs.declared.live_end.LiveEnd.TheVariants as end
use Rattle.qn_live.specs.declared.place.Choice.{Choice}
use Rattle.qn_live.specs.declared.place.Choice.TheVariants as choice
use Rattle.qn_live.specs.declared.place.Waits.{Waits}
use Rattle.qn_live.specs.Choosing.{choice_of, choice_plan, failed_answer, is_late, is_to_leave, looking, open_plan, packet_in, ready}
use Rattle.qn_live.specs.Greetings.{hellos_where, sends_plan}
use Rattle.qn_live.specs.Laws.{IsHistory, takes_answer}
use Rattle.qn_live.specs.Performing.{end_in, noted, outs_plan}
use Rattle.qn_base.specs.declared.calls.Received.{Received}
use Rattle.qn_safety.specs.declared.polls.Poll.{Poll}
use Rattle.qn_safety.specs.declared.polls.Reply.{Reply}
use Rattle.qn_safety.specs.Poller.{Poller}
use Rattle.qn_live.specs.Polling.{answered, choice_beside, is_device, is_reply_for, poll_due, poll_plan, polled, reply_in}
use Rattle.qn_live.specs.Choosing.{choice_in}
use Rattle.qn_live.specs.Running.{RunState, Turned, Over, Next, Ran, first_state, later}
use Rattle.qn_live.specs.Runs.{asked_maker, greets as hello_greets, clocked, greeted, handled, live_plan, looked_at, parted, run_plan, settled, taken, timed, turn_plan}
use Rattle.qn_live.proofs.Always.{Always, always_follows, always_then}

one_more : (s : Settings) (me : ℕ) (log : List Line) (entry : Entry) → IsHistory s me log → IsHistory s me (with_entry s me log entry)
one_more s me log entry is =
    (is.0 ++ entry ∷ [], ap (λ l. with_entry s me l entry) is.1 ∙ sym (log_from-more s me [] is.0 entry))

-- a turn ends with this log, and with this word on whether the next one rests
abbrev EndsFrom : List Line → Bool → Turned → Type 0
EndsFrom log rests (Over end last) = last ≡ log
EndsFrom log rests (Next next) = (next.log ≡ log) × (next.rests ≡ rests)

pub sends_always : (sents : List Sent) → Always (λ sent. Unit {0}) (sends_plan sents)
unfolding sends_plan
sends_always [] = tt
sends_always (sent ∷ sents) = λ call. sends_always sents

-- the calls of outputs change what waits alone
abbrev KeepsRest : RunState → RunState → Type 0
KeepsRest st after = (after.log ≡ st.log) × (after.rests ≡ st.rests)

outs_always : (s : Settings) (me : ℕ) (st : RunState) (outs : List Out) → Always (KeepsRest st) (outs_plan s me st outs)
unfolding outs_plan
outs_always s me st [] = (refl, refl)
outs_always s me st (o ∷ outs) = λ call. outs_always s me (noted s o call st) outs

pub poll_always : (poll : Option Poll) → Always (λ told. Unit {0}) (poll_plan poll)
poll_always None = tt
poll_always (Some poll) = λ call. tt

greeted_always : (s : Settings) (me : ℕ) (entry : What) (st : RunState) (log : List Line) (rests : Bool) → st.log ≡ log → st.rests ≡ rests → Always (EndsFrom log rests) (greeted s me entry st)
unfolding greeted
greeted_always s me entry st log rests is_log is_rests =
    let asked = asked_maker s me st in
    let sents = hellos_where (hello_greets s me st) s me asked.maker in
    let poll = poll_due s me (hello_greets s me st) entry asked in
    let next = polled s me (hello_greets s me st) entry asked in
    always_then (λ told. Unit {0}) (EndsFrom log rests) (poll_plan poll) (λ told. sends_plan sents >>= (λ sent. Ends (Next next))) (poll_always poll)
    (λ told nothing. always_then (λ sent. Unit {0}) (EndsFrom log rests) (sends_plan sents) (λ sent. Ends (Next next)) (sends_always sents) (λ sent nothing. (is_log, is_rests)))

parted_always : (s : Settings) (me : ℕ) (end : LiveEnd) (st : RunState) (log : List Line) (rests : Bool) → st.log ≡ log → Always (EndsFrom log rests) (parted s me end st)
unfolding parted
parted_always s me end st log rests is_log =
    always_then (λ sent. Unit {0}) (EndsFrom log rests) _ _ (sends_always _) (λ sent nothing. is_log)

settled_always : (s : Settings) (me : ℕ) (entry : What) (outs : List Out) (st : RunState) (log : List Line) (rests : Bool) → st.log ≡ log → st.rests ≡ rests → Always (EndsFrom log rests) (settled s me entry outs st)
unfolding settled
settled_always s me entry outs st log rests is_log is_rests =
    by_end (end_in entry outs)
  where
    by_end : (found : Option LiveEnd) → Always (EndsFrom log rests) (option_map_or (λ end. parted s me end st) found (greeted s me entry st))
    by_end None = greeted_always s me entry st log rests is_log is_rests
    by_end (Some end) = parted_always s me end st log rests is_log

handled_always : (s : Settings) (me : ℕ) (st : RunState) (tick : ℕ) (found : Option NamingMaker × What) → Always (EndsFrom (with_entry s me st.log (record { tick = tick; what = found.1 })) (failed_answer found.1)) (handled s me st tick found)
unfolding handled
handled_always s me st tick found =
    let after = taken s me st tick found in
    always_then (KeepsRest after) (EndsFrom after.log after.rests) (outs_plan s me after (newest_outs after.log)) (settled s me found.1 (newest_outs after.log))
    (outs_always s me after (newest_outs after.log))
    (λ done same. settled_always s me found.1 (newest_outs after.log) done after.log after.rests same.0 same.1)

-- a turn ends with the log of a history
abbrev KeepsHistory : Settings → ℕ → Turned → Type 0
KeepsHistory s me (Over end log) = IsHistory s me log
KeepsHistory s me (Next next) = IsHistory s me next.log

from_log : (s : Settings) (me : ℕ) (log : List Line) (rests : Bool) (turned : Turned) → IsHistory s me log → EndsFrom log rests turned → KeepsHistory s me turned
from_log s me log rests (Over end last) is from = (is.0, from ∙ is.1)
from_log s me log rests (Next next) is from = (is.0, from.0 ∙ is.1)

always_from : (s : Settings) (me : ℕ) (log : List Line) (rests : Bool) (plan : Plan Turned) → IsHistory s me log → Always (EndsFrom log rests) plan → Always (KeepsHistory s me) plan
always_from s me log rests (Ends turned) is always = from_log s me log rests turned is always
always_from s me log rests (Asks question left) is always = λ call. always_from s me log rests (left call) is (always call)

clocked_always : (s : Settings) (me : ℕ) (chosen : Choice × RunState) (tick : ℕ) → IsHistory s me chosen.1.log → Always (KeepsHistory s me) (clocked s me chosen tick)
unfolding clocked
clocked_always s me chosen tick is =
    by_clock (nat_lt tick (now chosen.1.log))
  where
    by_clock : (back : Bool) → Always (KeepsHistory s me) (if back then Ends (Over (end.ClockBack (now chosen.1.log) tick) chosen.1.log) else handled s me (looking tick (answered tick chosen)) tick (looked_at tick (answered tick chosen)))
    by_clock true = is
    by_clock false =
        let found = looked_at tick (answered tick chosen) in
        always_from s me (with_entry s me chosen.1.log (record { tick = tick; what = found.1 })) (failed_answer found.1) (handled s me (looking tick (answered tick chosen)) tick found)
        (one_more s me chosen.1.log (record { tick = tick; what = found.1 }) is)
        (handled_always s me (looking tick (answered tick chosen)) tick found)

-- what a turn takes leaves the log as it was
abbrev KeepsLog : List Line → Choice × RunState → Type 0
KeepsLog log chosen = chosen.1.log ≡ log

choice_always : (me : ℕ) (leaves : Bool) (st : RunState) → Always (KeepsLog st.log) (choice_plan me leaves st)
unfolding choice_plan
choice_always me leaves st =
    by_ready (ready leaves st.rests st.waits)
  where
    by_late : (late : Bool) → Always (KeepsLog st.log) (open_plan me st late)
    by_late true = refl
    by_late false = λ call. refl

    by_ready : (found : Option (What × Waits)) → Always (KeepsLog st.log) (option_map_or (λ taken. Ends (choice.Whole taken.0, record st { waits = taken.1 })) found (open_plan me st (is_late st)))
    by_ready None = by_late (is_late st)
    by_ready (Some found) = refl

turn_always : (s : Settings) (me : ℕ) (leave : Option ℕ) (turn : ℕ) (st : RunState) → IsHistory s me st.log → Always (KeepsHistory s me) (turn_plan s me leave turn st)
turn_always s me leave turn st is =
    always_then (KeepsLog st.log) (KeepsHistory s me) (choice_plan me (is_to_leave s leave turn st) st) (timed s me)
    (choice_always me (is_to_leave s leave turn st) st)
    (λ chosen same call. clocked_always s me chosen (time_of call) (is.0, same ∙ is.1))

-- a run ends with the log of a history
abbrev pub EndsHistory : Settings → ℕ → Ran → Type 0
EndsHistory s me ran = IsHistory s me ran.log

after_turn : (s : Settings) (me : ℕ) (next : RunState → Plan Ran) → ((st : RunState) → IsHistory s me st.log → Always (EndsHistory s me) (next st)) → (turned : Turned) → KeepsHistory s me turned → Always (EndsHistory s me) (later next turned)
after_turn s me next goes_on (Over end log) kept = kept
after_turn s me next goes_on (Next st) kept = goes_on st kept

run_always : (s : Settings) (me : ℕ) (leave : Option ℕ) (turn more : ℕ) (st : RunState) → IsHistory s me st.log → Always (EndsHistory s me) (run_plan s me leave turn more st)
unfolding run_plan
run_always s me leave turn zero st is = is
run_always s me leave turn (suc more) st is =
    always_then (KeepsHistory s me) (EndsHistory s me) (turn_plan s me leave turn st) (later (run_plan s me leave (turn + 1) more))
    (turn_always s me leave turn st is)
    (after_turn s me (run_plan s me leave (turn + 1) more) (λ next kept. run_always s me leave (turn + 1) more next kept))

pub live_always : (s : Settings) (me : ℕ) (clean : Bool) (leave polls : Option ℕ) (turns : ℕ) → Always (EndsHistory s me) (live_plan s me clean leave polls turns)
unfolding live_plan log_from
live_always s me clean leave polls turns =
    always_then (KeepsHistory s me) (EndsHistory s me) (timed s me (choice.Whole (begin_of clean), first_state polls)) (later (run_plan s me leave 2 (turns - 1)))
    (λ call. clocked_always s me (choice.Whole (begin_of clean), first_state polls) (time_of call) ([], refl))
    (after_turn s me (run_plan s me leave 2 (turns - 1)) (λ next kept. run_always s me leave 2 (turns - 1) next kept))

-- a turn that goes on says whether its entry was a failed answer of the disk
pub handled_rests : (s : Settings) (me : ℕ) (st : RunState) (tick : ℕ) (found : Option NamingMaker × What) (calls : List Call) (next : RunState) → Follows (handled s me st tick found) calls (Next next) → next.rests ≡ failed_answer found.1
handled_rests s me st tick found calls next follows =
    let kept = always_follows (EndsFrom (with_entry s me st.log (record { tick = tick; what = found.1 })) (failed_answer found.1)) (handled s me st tick found) calls (Next next) (handled_always s me st tick found) follows in
    kept.1

-- no packet is the answer of a disk operation
packet_taken : (me : ℕ) (p : Option Packet) → takes_answer (choice_of me p) ≡ false
packet_taken me None = refl
packet_taken me (Some (packet.Ask ask)) = by_test (ask.to.0 == me)
  where
    by_test : (to_me : Bool) → takes_answer (if to_me then choice.Whole (what.Ask ask) else choice.Open (Some (packet.Ask ask))) ≡ false
    by_test true = refl
    by_test false = refl
packet_taken me (Some (packet.Tell tell)) = by_test (tell.to.0 == me)
  where
    by_test : (to_me : Bool) → takes_answer (if to_me then choice.Whole (what.Tell tell) else choice.Open (Some (packet.Tell tell))) ≡ false
    by_test true = refl
    by_test false = refl
packet_taken me (Some (packet.Vote agrees)) = refl
packet_taken me (Some (packet.Hello from)) = refl
packet_taken me (Some (packet.Heard from said standing)) = refl
packet_taken me (Some (packet.Announce from view)) = refl

reply_taken : (me : ℕ) (reply : Option Reply) (before : Choice) → takes_answer before ≡ false → takes_answer (choice_beside me reply before) ≡ false
reply_taken me (Some reply) before none = by_test (is_reply_for me reply)
  where
    by_test : (own : Bool) → takes_answer (if own then choice.Answer reply else choice.Open None) ≡ false
    by_test true = refl
    by_test false = refl
reply_taken me None (choice.Whole entry) none = by_test (is_device entry)
  where
    by_test : (device : Bool) → takes_answer (if device then choice.Open None else choice.Whole entry) ≡ false
    by_test true = refl
    by_test false = none
reply_taken me None (choice.Open p) none = refl
reply_taken me None (choice.Answer reply) none = refl

-- nor does what was received beside an arbiter
received_taken : (me : ℕ) (poller : Option Poller) (got : Received) → takes_answer (choice_in me poller got) ≡ false
received_taken me None got = packet_taken me (packet_in got)
received_taken me (Some poller) got = reply_taken me (reply_in got) (choice_of me (packet_in got)) (packet_taken me (packet_in got))

-- the turn takes no answer of the disk, and keeps the one that waits
abbrev Rests : RunState → Choice × RunState → Type 0
Rests st chosen = (takes_answer chosen.0 ≡ false) × (chosen.1.waits.disk ≡ st.waits.disk)

rests_always : (me : ℕ) (leaves : Bool) (st : RunState) → st.rests ≡ true → Always (Rests st) (choice_plan me leaves st)
unfolding choice_plan
rests_always me leaves st rests =
    subst
    (λ (r : Bool). Always (Rests st) (option_map_or (λ taken. Ends (choice.Whole taken.0, record st { waits = taken.1 })) (ready leaves r st.waits) (open_plan me st (is_late st))))
    (sym rests)
    (by_waits leaves st.waits.stopped)
  where
    by_late : (late : Bool) → Always (Rests st) (open_plan me st late)
    by_late true = (refl, refl)
    by_late false = λ call. (received_taken me st.poller (received_in call), refl)

    by_waits : (leaves : Bool) (stopped : Option Bool) → Always (Rests st) (option_map_or (λ taken. Ends (choice.Whole taken.0, record st { waits = taken.1 })) (ready leaves true (record { stopped = stopped; disk = st.waits.disk })) (open_plan me st (is_late st)))
    by_waits true None = (refl, refl)
    by_waits false None = by_late (is_late st)
    by_waits true (Some ok) = (refl, refl)
    by_waits false (Some ok) = (refl, refl)

pub choice_rests : (me : ℕ) (leaves : Bool) (st : RunState) (calls : List Call) (chosen : Choice × RunState) → st.rests ≡ true → Follows (choice_plan me leaves st) calls chosen → Rests st chosen
choice_rests me leaves st calls chosen rests follows =
    always_follows (Rests st) (choice_plan me leaves st) calls chosen (rests_always me leaves st rests) follows

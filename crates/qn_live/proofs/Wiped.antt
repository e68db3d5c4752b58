-- The questions of a run on one image have no answer in them.
use Rattle.std.proofs.Common.{◌≡◌, ℕ, suc, zero, Bool, true, false, ◌+◌, ◌-◌, List, [], ◌∷◌, Option, None, Some, if◌then◌else◌, refl}
use Rattle.std.specs.Prelude.{nat_lt}
use Rattle.std.specs.Option.{option_map_or}
use Rattle.qn_base.specs.declared.calls.Call.{Call}
use Rattle.qn_base.specs.Calls.{blank}
use Rattle.qn_base.specs.Plans.{Plan, Ends, Asks, ◌>>=◌}
use Rattle.qn_io.specs.Answered.{time_of}
use Rattle.qn_member.specs.Naming.{NamingMaker}
use Rattle.qn_model.specs.declared.configuration.Settings.{Settings}
use Rattle.qn_model.specs.declared.entries.What.{What}
use Rattle.qn_model.specs.declared.outputs.DiskOp.{DiskOp}
use Rattle.qn_model.specs.declared.outputs.DiskOp.TheVariants as disk
use Rattle.qn_model.specs.declared.outputs.Out.{Out}
use Rattle.qn_model.specs.declared.outputs.Out.TheVariants as out
use Rattle.qn_model.specs.declared.packets.Sent.{Sent}
use Rattle.qn_model.specs.Log.{now}
use Rattle.qn_model.specs.Moments.{begin_of}
use Rattle.qn_model.specs.NodeOutputs.{newest_outs}
use Rattle.qn_live.specs.declared.live_end.LiveEnd.{LiveEnd}
use Rattle.qn_live.specs.declared.live_end.LiveEnd.TheVariants as end
use Rattle.qn_live.specs.declared.place.Choice.{Choice}
use Rattle.qn_live.specs.declared.place.Choice.TheVariants as choice
use Rattle.qn_live.specs.declared.place.Waits.{Waits}
use Rattle.qn_live.specs.Choosing.{choice_plan, is_late, is_to_leave, looking, open_plan, ready}
use Rattle.qn_live.specs.Greetings.{hellos_where, sends_plan}
use Rattle.qn_live.specs.Performing.{disk_call, end_in, noted, out_call, outs_plan, own_number}
use Rattle.qn_safety.specs.declared.polls.Poll.{Poll}
use Rattle.qn_live.specs.Polling.{answered, poll_due, poll_plan, polled}
use Rattle.qn_live.specs.Running.{RunState, Turned, Over, Next, Ran, first_state, later}
use Rattle.qn_live.specs.Runs.{asked_maker, greets as hello_greets, clocked, greeted, handled, live_plan, looked_at, parted, run_plan, settled, taken, timed, turn_plan}

-- each question is wiped
abbrev pub AsksWiped : {A : Type 0} → Plan A → Type 0
AsksWiped (Ends value) = Unit {0}
AsksWiped (Asks question left) = (blank question ≡ question) × ((call : Call) → AsksWiped (left call))

wiped_then : {A B : Type 0} (plan : Plan A) (next : A → Plan B) → AsksWiped plan → ((value : A) → AsksWiped (next value)) → AsksWiped (plan >>= next)
wiped_then (Ends value) next wiped goes_on = goes_on value
wiped_then (Asks question left) next wiped goes_on = (wiped.0, λ call. wiped_then (left call) next (wiped.1 call) goes_on)

disk_wiped : (s : Settings) (me number : ℕ) (op : DiskOp) → blank (disk_call s me number op) ≡ disk_call s me number op
unfolding disk_call
disk_wiped s me number disk.ReadHeader = refl
disk_wiped s me number (disk.ReadSlot rank) = refl
disk_wiped s me number disk.CheckMail = refl
disk_wiped s me number disk.ReadMail = refl
disk_wiped s me number (disk.WriteClaim next) = refl
disk_wiped s me number (disk.WriteClose own) = refl
disk_wiped s me number disk.WriteClear = refl
disk_wiped s me number (disk.WriteReset rank) = refl

out_wiped : (s : Settings) (me number : ℕ) (o : Out) → blank (out_call s me number o) ≡ out_call s me number o
unfolding out_call
out_wiped s me number out.Stop = refl
out_wiped s me number out.Start = refl
out_wiped s me number out.Feed = refl
out_wiped s me number (out.Send to packet) = refl
out_wiped s me number (out.Disk op) = disk_wiped s me number op
out_wiped s me number out.Disarm = refl
out_wiped s me number (out.Halt kind) = refl

sends_wiped : (sents : List Sent) → AsksWiped (sends_plan sents)
unfolding sends_plan
sends_wiped [] = tt
sends_wiped (sent ∷ sents) = (refl, λ call. sends_wiped sents)

outs_wiped : (s : Settings) (me : ℕ) (st : RunState) (outs : List Out) → AsksWiped (outs_plan s me st outs)
unfolding outs_plan
outs_wiped s me st [] = tt
outs_wiped s me st (o ∷ outs) = (out_wiped s me (own_number st.log) o, λ call. outs_wiped s me (noted s o call st) outs)

poll_wiped : (poll : Option Poll) → AsksWiped (poll_plan poll)
poll_wiped None = tt
poll_wiped (Some poll) = (refl, λ call. tt)

greeted_wiped : (s : Settings) (me : ℕ) (entry : What) (st : RunState) → AsksWiped (greeted s me entry st)
unfolding greeted
greeted_wiped s me entry st =
    let asked = asked_maker s me st in
    let sents = hellos_where (hello_greets s me st) s me asked.maker in
    let poll = poll_due s me (hello_greets s me st) entry asked in
    let next = polled s me (hello_greets s me st) entry asked in
    wiped_then (poll_plan poll) (λ told. sends_plan sents >>= (λ sent. Ends (Next next))) (poll_wiped poll) (λ told. wiped_then (sends_plan sents) (λ sent. Ends (Next next)) (sends_wiped sents) (λ sent. tt))

parted_wiped : (s : Settings) (me : ℕ) (end : LiveEnd) (st : RunState) → AsksWiped (parted s me end st)
unfolding parted
parted_wiped s me end st = wiped_then (sends_plan _) _ (sends_wiped _) (λ sent. tt)

settled_wiped : (s : Settings) (me : ℕ) (entry : What) (outs : List Out) (st : RunState) → AsksWiped (settled s me entry outs st)
unfolding settled
settled_wiped s me entry outs st =
    by_end (end_in entry outs)
  where
    by_end : (found : Option LiveEnd) → AsksWiped (option_map_or (λ end. parted s me end st) found (greeted s me entry st))
    by_end None = greeted_wiped s me entry st
    by_end (Some end) = parted_wiped s me end st

handled_wiped : (s : Settings) (me : ℕ) (st : RunState) (tick : ℕ) (found : Option NamingMaker × What) → AsksWiped (handled s me st tick found)
unfolding handled
handled_wiped s me st tick found =
    let after = taken s me st tick found in
    wiped_then (outs_plan s me after (newest_outs after.log)) (settled s me found.1 (newest_outs after.log))
    (outs_wiped s me after (newest_outs after.log))
    (λ next. settled_wiped s me found.1 (newest_outs after.log) next)

clocked_wiped : (s : Settings) (me : ℕ) (chosen : Choice × RunState) (tick : ℕ) → AsksWiped (clocked s me chosen tick)
unfolding clocked
clocked_wiped s me chosen tick =
    by_clock (nat_lt tick (now chosen.1.log))
  where
    by_clock : (back : Bool) → AsksWiped (if back then Ends (Over (end.ClockBack (now chosen.1.log) tick) chosen.1.log) else handled s me (looking tick (answered tick chosen)) tick (looked_at tick (answered tick chosen)))
    by_clock true = tt
    by_clock false = handled_wiped s me (looking tick (answered tick chosen)) tick (looked_at tick (answered tick chosen))

timed_wiped : (s : Settings) (me : ℕ) (chosen : Choice × RunState) → AsksWiped (timed s me chosen)
timed_wiped s me chosen = (refl, λ call. clocked_wiped s me chosen (time_of call))

choice_wiped : (me : ℕ) (leaves : Bool) (st : RunState) → AsksWiped (choice_plan me leaves st)
unfolding choice_plan
choice_wiped me leaves st =
    by_ready (ready leaves st.rests st.waits)
  where
    by_late : (late : Bool) → AsksWiped {A = Choice × RunState} (open_plan me st late)
    by_late true = tt
    by_late false = (refl, λ call. tt)

    by_ready : (found : Option (What × Waits)) → AsksWiped {A = Choice × RunState} (option_map_or (λ taken. Ends (choice.Whole taken.0, record st { waits = taken.1 })) found (open_plan me st (is_late st)))
    by_ready None = by_late (is_late st)
    by_ready (Some found) = tt

later_wiped : (next : RunState → Plan Ran) → ((st : RunState) → AsksWiped (next st)) → (turned : Turned) → AsksWiped (later next turned)
later_wiped next goes_on (Over end log) = tt
later_wiped next goes_on (Next st) = goes_on st

run_wiped : (s : Settings) (me : ℕ) (leave : Option ℕ) (turn more : ℕ) (st : RunState) → AsksWiped (run_plan s me leave turn more st)
unfolding run_plan
run_wiped s me leave turn zero st = tt
run_wiped s me leave turn (suc more) st =
    wiped_then (turn_plan s me leave turn st) (later (run_plan s me leave (turn + 1) more))
    (wiped_then (choice_plan me (is_to_leave s leave turn st) st) (timed s me) (choice_wiped me (is_to_leave s leave turn st) st) (timed_wiped s me))
    (later_wiped (run_plan s me leave (turn + 1) more) (λ next. run_wiped s me leave (turn + 1) more next))

pub live_wiped : (s : Settings) (me : ℕ) (clean : Bool) (leave polls : Option ℕ) (turns : ℕ) → AsksWiped (live_plan s me clean leave polls turns)
unfolding live_plan
live_wiped s me clean leave polls turns =
    wiped_then (timed s me (choice.Whole (begin_of clean), first_state polls)) (later (run_plan s me leave 2 (turns - 1)))
    (timed_wiped s me (choice.Whole (begin_of clean), first_state polls))
    (later_wiped (run_plan s me leave 2 (turns - 1)) (λ next. run_wiped s me leave 2 (turns - 1) next))

-- From call to call: a resource that the log holds runs, until a stop of it succeeds.
use Rattle.std.proofs.Common.{◌≡◌, ◌⊎◌, inl, inr, ℕ, suc, zero, Bool, true, false, not, ◌&&◌, ◌||◌, List, [], ◌∷◌, Option, None, Some, if◌then◌else◌, refl, sym, ◌∙◌, ap, subst}
use Rattle.std.specs.Prelude.{nat_lt, option_and_then}
use Rattle.std.specs.Option.{option_map_or}
use Rattle.std.proofs.lemmas.Bool.{false≢true, or_left, or_right}
use Rattle.std.proofs.lemmas.Option.{same_Some}
use Rattle.qn_base.specs.declared.calls.Call.{Call}
use Rattle.qn_base.specs.declared.calls.Call.TheVariants as call
use Rattle.qn_base.specs.declared.calls.Received.{Received}
use Rattle.qn_base.specs.Calls.{blank, is_failed}
use Rattle.qn_base.specs.Plans.{question}
use Rattle.qn_io.specs.Answered.{bytes_read, received_in, time_of}
use Rattle.qn_model.specs.declared.configuration.Settings.{Settings}
use Rattle.qn_model.specs.declared.entries.What.{What}
use Rattle.qn_model.specs.declared.entries.What.TheVariants as what
use Rattle.qn_model.specs.declared.outputs.DiskOp.{DiskOp}
use Rattle.qn_model.specs.declared.outputs.DiskOp.TheVariants as disk
use Rattle.qn_model.specs.declared.outputs.Out.{Out}
use Rattle.qn_model.specs.declared.outputs.Out.TheVariants as out
use Rattle.qn_model.specs.declared.packets.Packet.{Packet}
use Rattle.qn_model.specs.declared.packets.Packet.TheVariants as packet
use Rattle.qn_model.specs.declared.packets.Sent.{Sent}
use Rattle.qn_model.specs.Fitting.{read_as}
use Rattle.qn_model.specs.Holding.{answers_stop, holds, is_stopped, stop_due}
use Rattle.qn_model.specs.Log.{Line, has_start, has_stop, now}
use Rattle.qn_model.specs.NodeOutputs.{newest_outs, with_entry}
use Rattle.qn_model.specs.Steps.{entry_of}
use Rattle.qn_model.specs.World.{failed}
use Rattle.qn_member.specs.Naming.{NamingMaker}
use Rattle.qn_safety.specs.declared.polls.Poll.{Poll}
use Rattle.qn_safety.specs.declared.polls.Reply.{Reply}
use Rattle.qn_safety.specs.Poller.{Poller, answer_taken}
use Rattle.qn_live.specs.declared.live_end.LiveEnd.{LiveEnd}
use Rattle.qn_live.specs.declared.place.Choice.{Choice}
use Rattle.qn_live.specs.declared.place.Choice.TheVariants as choice
use Rattle.qn_live.specs.declared.place.Waits.{Waits}
use Rattle.qn_live.specs.declared.words.Own.{Own}
use Rattle.qn_live.specs.Choosing.{choice_in, choice_of, heard_request, is_entry_for, is_late, is_to_leave, looked, looking, own_of, packet_in, ready}
use Rattle.qn_live.specs.Performing.{disk_answer, disk_call, done, end_in, noted, out_call, outs_plan, own_number, waits_after}
use Rattle.qn_live.specs.Greetings.{sends_plan}
use Rattle.qn_live.specs.Polling.{answered, answered_at, choice_beside, is_device, is_reply_for, poll_due, polled, reply_in}
use Rattle.qn_live.specs.Running.{RunState}
use Rattle.qn_live.specs.Runs.{asked_maker, greets, looked_at, taken}
use Rattle.qn_joined.specs.Joints.{Host, after_effect}
use Rattle.qn_joined.specs.Owning.{is_done_stop, is_no_stop, stops_in}
use Rattle.qn_joined.specs.Stands.{Acting, Ended, Looking, Parting, Polling, Receiving, Saying, Spot, acts_at, after_spot, begun_at, clocked_by, farewells_due, first_stand, left_plan, log_at, opening, parts_at, polled_at, said_at, sends_due, settled_by, taking}
use Rattle.qn_service.proofs.OneStop.{OneStop, newest_once, rest_none, rest_once}

-- ## What is known where a run stands

-- the answer of the disk that waits is none of a stop
abbrev pub answers_none : Option What → Bool
answers_none None = true
answers_none (Some answer) = not (answers_stop answer)

-- of a state: what is held runs, or a stop that succeeded waits; and an answer of a stop that waits is one that is due
pub record Keeps (st : RunState) (runs : Bool) : Type 0 where
  pub held : holds st.log ≡ true → (runs ≡ true) ⊎ (is_done_stop st.waits.stopped ≡ true)
  pub due : is_no_stop st.waits.stopped ≡ false → stop_due st.log ≡ true
  pub calm : answers_none st.waits.disk ≡ true

-- of what a turn takes
pub record Takes (log : List Line) (waits : Waits) (chosen : Choice) (runs : Bool) : Type 0 where
  pub held : holds log ≡ true → (runs ≡ true) ⊎ (stops_in chosen ≡ true)
  pub due : stops_in chosen ≡ true → stop_due log ≡ true
  pub free : is_no_stop waits.stopped ≡ true
  pub calm : answers_none waits.disk ≡ true

-- of the outputs that are left to perform
pub record Ahead (st : RunState) (outs : List Out) : Type 0 where
  pub once : OneStop outs
  pub free : has_stop outs ≡ true → is_no_stop st.waits.stopped ≡ true
  pub due : has_stop outs ≡ true → stop_due st.log ≡ true

abbrev pub RunsAt : Spot → Bool → Type 0
RunsAt (Receiving st) runs = Keeps st runs × (is_no_stop st.waits.stopped ≡ true)
RunsAt (Looking chosen) runs = Takes chosen.1.log chosen.1.waits chosen.0 runs
RunsAt (Acting entry outs o rest st) runs = Keeps st runs × Ahead st (o ∷ rest)
RunsAt (Polling poll sents st) runs = Keeps st runs
RunsAt (Saying sent rest st) runs = Keeps st runs
RunsAt (Parting end sent rest st) runs = Keeps st runs
RunsAt (Ended ran) runs = holds ran.log ≡ true → (runs ≡ true) ⊎ (stop_due ran.log ≡ true)

done_is_one : (waits : Option Bool) → is_done_stop waits ≡ true → is_no_stop waits ≡ false
done_is_one None is = absurd (false≢true is)
done_is_one (Some ok) is = refl

no_done : (waits : Option Bool) → is_no_stop waits ≡ true → is_done_stop waits ≡ true → ⊥
no_done None none is = false≢true is
no_done (Some ok) none is = false≢true none

-- what runs, or is to be answered
or_due : (st : RunState) (runs : Bool) → Keeps st runs → holds st.log ≡ true → (runs ≡ true) ⊎ (stop_due st.log ≡ true)
or_due st runs keeps held = by_either (keeps.held held)
  where
    by_either : (runs ≡ true) ⊎ (is_done_stop st.waits.stopped ≡ true) → (runs ≡ true) ⊎ (stop_due st.log ≡ true)
    by_either (inl is) = inl is
    by_either (inr is) = inr (keeps.due (done_is_one st.waits.stopped is))

-- what holds where a run stands, whatever it does next
pub spot_runs : (spot : Spot) (runs : Bool) → RunsAt spot runs → holds (log_at spot) ≡ true → (runs ≡ true) ⊎ (stop_due (log_at spot) ≡ true)
spot_runs (Receiving st) runs at held = or_due st runs at.0 held
spot_runs (Looking chosen) runs at held = by_either (at.held held)
  where
    by_either : (runs ≡ true) ⊎ (stops_in chosen.0 ≡ true) → (runs ≡ true) ⊎ (stop_due chosen.1.log ≡ true)
    by_either (inl is) = inl is
    by_either (inr is) = inr (at.due is)
spot_runs (Acting entry outs o rest st) runs at held = or_due st runs at.0 held
spot_runs (Polling poll sents st) runs at held = or_due st runs at held
spot_runs (Saying sent rest st) runs at held = or_due st runs at held
spot_runs (Parting end sent rest st) runs at held = or_due st runs at held
spot_runs (Ended ran) runs at held = at held

-- ## From state to state

-- nothing of a stop waits
still : (log : List Line) (waits : Option Bool) (runs : Bool) → is_no_stop waits ≡ true → (holds log ≡ true → (runs ≡ true) ⊎ (is_done_stop waits ≡ true))
    → holds log ≡ true → runs ≡ true
still log waits runs none held is = by_either (held is)
  where
    by_either : (runs ≡ true) ⊎ (is_done_stop waits ≡ true) → runs ≡ true
    by_either (inl runs) = runs
    by_either (inr done) = absurd (no_done waits none done)

opening_runs : (st : RunState) (runs late : Bool) → Keeps st runs → is_no_stop st.waits.stopped ≡ true → RunsAt (opening st late) runs
opening_runs st runs true keeps none =
    record { held = λ is. inl (still st.log st.waits.stopped runs none keeps.held is); due = λ is. absurd (false≢true is); free = none; calm = keeps.calm }
opening_runs st runs false keeps none = (keeps, none)

quiet_stops : (answer : What) → not (answers_stop answer) ≡ true → is_stopped answer ≡ true → ⊥
quiet_stops (what.Stopped ok) quiet is = false≢true quiet
quiet_stops what.Begin quiet is = false≢true is
quiet_stops what.BeginClean quiet is = false≢true is
quiet_stops (what.Header seen) quiet is = false≢true is
quiet_stops (what.SlotRead rank seen) quiet is = false≢true is
quiet_stops (what.MailChecked seen) quiet is = false≢true is
quiet_stops (what.Claimed ok) quiet is = false≢true is
quiet_stops (what.Cleared ok) quiet is = false≢true is
quiet_stops (what.MailRead seen) quiet is = false≢true is
quiet_stops (what.MailWritten rank ok) quiet is = false≢true is
quiet_stops (what.View view) quiet is = false≢true is
quiet_stops (what.Ask ask) quiet is = false≢true is
quiet_stops (what.Tell tell) quiet is = false≢true is
quiet_stops (what.Device agrees) quiet is = false≢true is
quiet_stops what.Tick quiet is = false≢true is
quiet_stops what.Leave quiet is = false≢true is
quiet_stops (what.Closed ok) quiet is = false≢true is

taking_runs : (st : RunState) (runs leaves rests : Bool) (stopped : Option Bool) (disk : Option What)
    → (holds st.log ≡ true → (runs ≡ true) ⊎ (is_done_stop stopped ≡ true)) → (is_no_stop stopped ≡ false → stop_due st.log ≡ true) → answers_none disk ≡ true
    → RunsAt (taking (record st { waits = record { stopped = stopped; disk = disk } }) (ready leaves rests (record { stopped = stopped; disk = disk }))) runs
taking_runs st runs leaves rests (Some ok) disk held due calm =
    record { held = held; due = λ is. due refl; free = refl; calm = calm }
taking_runs st runs leaves false None (Some answer) held due calm =
    record { held = λ is. inl (still st.log None runs refl held is); due = λ is. absurd (quiet_stops answer calm is); free = refl; calm = refl }
taking_runs st runs true false None None held due calm =
    record { held = λ is. inl (still st.log None runs refl held is); due = λ is. absurd (false≢true is); free = refl; calm = refl }
taking_runs st runs false false None None held due calm =
    opening_runs (record st { waits = record { stopped = None; disk = None } }) runs (is_late st) (record { held = held; due = due; calm = refl }) refl
taking_runs st runs true true None disk held due calm =
    record { held = λ is. inl (still st.log None runs refl held is); due = λ is. absurd (false≢true is); free = refl; calm = calm }
taking_runs st runs false true None disk held due calm =
    opening_runs (record st { waits = record { stopped = None; disk = disk } }) runs (is_late st) (record { held = held; due = due; calm = calm }) refl

begun_runs : (s : Settings) (me : ℕ) (leave : Option ℕ) (turn more : ℕ) (st : RunState) (runs : Bool) → Keeps st runs → RunsAt (begun_at s me leave turn more st).spot runs
begun_runs s me leave turn zero st runs keeps = λ is. or_due st runs keeps is
begun_runs s me leave turn (suc more) st runs keeps =
    taking_runs st runs (is_to_leave s leave turn st) st.rests st.waits.stopped st.waits.disk keeps.held keeps.due keeps.calm

said_runs : (s : Settings) (me : ℕ) (leave : Option ℕ) (turn more : ℕ) (st : RunState) (sents : List Sent) (runs : Bool) → Keeps st runs
    → RunsAt (said_at s me leave turn more st sents).spot runs
said_runs s me leave turn more st [] runs keeps = begun_runs s me leave turn more st runs keeps
said_runs s me leave turn more st (sent ∷ rest) runs keeps = keeps

polled_runs : (s : Settings) (me : ℕ) (leave : Option ℕ) (turn more : ℕ) (st : RunState) (sents : List Sent) (poll : Option Poll) (runs : Bool) → Keeps st runs
    → RunsAt (polled_at s me leave turn more st sents poll).spot runs
polled_runs s me leave turn more st sents None runs keeps = said_runs s me leave turn more st sents runs keeps
polled_runs s me leave turn more st sents (Some poll) runs keeps = keeps

parts_runs : (turn more : ℕ) (end : LiveEnd) (st : RunState) (sents : List Sent) (runs : Bool) → Keeps st runs → RunsAt (parts_at turn more end st sents).spot runs
parts_runs turn more end st [] runs keeps = λ is. or_due st runs keeps is
parts_runs turn more end st (sent ∷ rest) runs keeps = keeps

settled_runs : (s : Settings) (me : ℕ) (leave : Option ℕ) (turn more : ℕ) (entry : What) (st : RunState) (found : Option LiveEnd) (runs : Bool) → Keeps st runs
    → RunsAt (settled_by s me leave turn more entry st found).spot runs
settled_runs s me leave turn more entry st None runs keeps =
    polled_runs s me leave turn more (polled s me (greets s me st) entry (asked_maker s me st)) (sends_due s me st)
    (poll_due s me (greets s me st) entry (asked_maker s me st)) runs (record { held = keeps.held; due = keeps.due; calm = keeps.calm })
settled_runs s me leave turn more entry st (Some end) runs keeps = parts_runs turn more end st (farewells_due s me end st) runs keeps

acts_runs : (s : Settings) (me : ℕ) (leave : Option ℕ) (turn more : ℕ) (entry : What) (outs rest : List Out) (st : RunState) (runs : Bool) → Keeps st runs → Ahead st rest
    → RunsAt (acts_at s me leave turn more entry outs rest st).spot runs
acts_runs s me leave turn more entry outs [] st runs keeps ahead = settled_runs s me leave turn more entry st (end_in entry outs) runs keeps
acts_runs s me leave turn more entry outs (o ∷ rest) st runs keeps ahead = (keeps, ahead)

-- ## An entry

newest_due : (log : List Line) → has_stop (newest_outs log) ≡ true → stop_due log ≡ true
unfolding stop_due
newest_due [] is = absurd (false≢true is)
newest_due (line ∷ past) is = or_left (has_stop line.outs) (stop_due past && not (answers_stop line.what)) is

-- a stop that succeeded, and is due, ends what was held
stop_fits : (s : Settings) (me : ℕ) (past : List Line) (entry : What) → is_stopped entry ≡ true → stop_due past ≡ true → is_stopped (read_as s me past entry) ≡ true
stop_fits s me past (what.Stopped ok) is due = ap (λ fit. is_stopped (if fit then what.Stopped ok else what.Tick)) due ∙ is
stop_fits s me past what.Begin is due = absurd (false≢true is)
stop_fits s me past what.BeginClean is due = absurd (false≢true is)
stop_fits s me past (what.Header seen) is due = absurd (false≢true is)
stop_fits s me past (what.SlotRead rank seen) is due = absurd (false≢true is)
stop_fits s me past (what.MailChecked seen) is due = absurd (false≢true is)
stop_fits s me past (what.Claimed ok) is due = absurd (false≢true is)
stop_fits s me past (what.Cleared ok) is due = absurd (false≢true is)
stop_fits s me past (what.MailRead seen) is due = absurd (false≢true is)
stop_fits s me past (what.MailWritten rank ok) is due = absurd (false≢true is)
stop_fits s me past (what.View view) is due = absurd (false≢true is)
stop_fits s me past (what.Ask ask) is due = absurd (false≢true is)
stop_fits s me past (what.Tell tell) is due = absurd (false≢true is)
stop_fits s me past (what.Device agrees) is due = absurd (false≢true is)
stop_fits s me past what.Tick is due = absurd (false≢true is)
stop_fits s me past what.Leave is due = absurd (false≢true is)
stop_fits s me past (what.Closed ok) is due = absurd (false≢true is)

-- what runs once an entry was taken in
runs_then : (started past_holds stopped runs : Bool) → (past_holds ≡ true → (runs ≡ true) ⊎ (stopped ≡ true)) → (started || (past_holds && not stopped)) ≡ true → (started || runs) ≡ true
runs_then true past_holds stopped runs held is = refl
runs_then false true false runs held is = by_either (held refl)
  where
    by_either : (runs ≡ true) ⊎ (false ≡ true) → runs ≡ true
    by_either (inl runs) = runs
    by_either (inr wrong) = absurd (false≢true wrong)
runs_then false true true runs held is = absurd (false≢true is)
runs_then false false stopped runs held is = absurd (false≢true is)

-- what is taken as an entry is a stop that succeeded where the choice is one
taken_stops : (tick : ℕ) (own : Own) (chosen : Choice) (had : Option NamingMaker) → stops_in chosen ≡ true → is_stopped (looked tick own chosen had).1 ≡ true
taken_stops tick own (choice.Whole entry) had is = is
taken_stops tick own (choice.Open p) had is = absurd (false≢true is)
taken_stops tick own (choice.Answer reply) had is = absurd (false≢true is)

taken_keeps : (s : Settings) (me : ℕ) (st : RunState) (tick : ℕ) (own : Own) (chosen : Choice) (runs : Bool) → Takes st.log st.waits chosen runs
    → Keeps (taken s me st tick (looked tick own chosen st.maker)) (has_start (newest_outs (taken s me st tick (looked tick own chosen st.maker)).log) || runs)
unfolding with_entry holds
taken_keeps s me st tick own chosen runs takes =
    record {
      held = λ is. inl (runs_then (has_start (newest_outs after)) (holds st.log) (is_stopped (read_as s me st.log entry)) runs stays is);
      due = λ one. absurd (false≢true (sym one ∙ takes.free));
      calm = takes.calm;
    }
  where
    entry : What
    entry = (looked tick own chosen st.maker).1

    after : List Line
    after = with_entry s me st.log (record { tick = tick; what = entry })

    stays : holds st.log ≡ true → (runs ≡ true) ⊎ (is_stopped (read_as s me st.log entry) ≡ true)
    stays held = by_either (takes.held held)
      where
        by_either : (runs ≡ true) ⊎ (stops_in chosen ≡ true) → (runs ≡ true) ⊎ (is_stopped (read_as s me st.log entry) ≡ true)
        by_either (inl is) = inl is
        by_either (inr is) = inr (stop_fits s me st.log entry (taken_stops tick own chosen st.maker is) (takes.due is))

taken_ahead : (s : Settings) (me : ℕ) (st : RunState) (tick : ℕ) (found : Option NamingMaker × What) → is_no_stop st.waits.stopped ≡ true
    → Ahead (taken s me st tick found) (newest_outs (taken s me st tick found).log)
taken_ahead s me st tick found free =
    record {
      once = newest_once s me st.log (record { tick = tick; what = found.1 });
      free = λ is. free;
      due = λ is. newest_due (with_entry s me st.log (record { tick = tick; what = found.1 })) is;
    }

-- ## A call

-- what runs after a call
abbrev pub runs_after : Call → List Out → Bool → Bool
runs_after (call.Now tick) outs runs = has_start outs || runs
runs_after (call.Stop ok) outs runs = not ok && runs
runs_after (call.Receive got) outs runs = runs
runs_after (call.Read sector bytes ok) outs runs = runs
runs_after (call.Write sector bytes ok) outs runs = runs
runs_after (call.Feed ok) outs runs = runs
runs_after (call.Start ok) outs runs = runs
runs_after (call.Send to bytes ok) outs runs = runs
runs_after (call.Disarm ok) outs runs = runs
runs_after (call.Halt code) outs runs = runs
runs_after (call.OpenImage path ok) outs runs = runs
runs_after (call.OpenNode images image watchdog resource port rank ok) outs runs = runs

pub effect_after : (made : Call) (outs : List Out) (time : ℕ) (host : Host) → (after_effect made outs time host).runs ≡ runs_after made outs host.runs
effect_after (call.Now tick) outs time host = refl
effect_after (call.Stop ok) outs time host = refl
effect_after (call.Receive got) outs time host = refl
effect_after (call.Read sector bytes ok) outs time host = refl
effect_after (call.Write sector bytes ok) outs time host = refl
effect_after (call.Feed ok) outs time host = refl
effect_after (call.Start ok) outs time host = refl
effect_after (call.Send to bytes ok) outs time host = refl
effect_after (call.Disarm ok) outs time host = refl
effect_after (call.Halt code) outs time host = refl
effect_after (call.OpenImage path ok) outs time host = refl
effect_after (call.OpenNode images image watchdog resource port rank ok) outs time host = refl

-- a call that is neither a look at the clock nor a stop
abbrev is_other_call : Call → Bool
is_other_call (call.Now tick) = false
is_other_call (call.Stop ok) = false
is_other_call (call.Receive got) = true
is_other_call (call.Read sector bytes ok) = true
is_other_call (call.Write sector bytes ok) = true
is_other_call (call.Feed ok) = true
is_other_call (call.Start ok) = true
is_other_call (call.Send to bytes ok) = true
is_other_call (call.Disarm ok) = true
is_other_call (call.Halt code) = true
is_other_call (call.OpenImage path ok) = true
is_other_call (call.OpenNode images image watchdog resource port rank ok) = true

-- what runs stays so, where such a call was asked for
runs_on : (asked made : Call) (outs : List Out) (runs : Bool) → is_other_call asked ≡ true → Some asked ≡ Some (blank made) → runs_after made outs runs ≡ runs
runs_on asked made outs runs other is = by_call made (sym (ap is_other_call (same_Some asked (blank made) is)) ∙ other)
  where
    by_call : (c : Call) → is_other_call (blank c) ≡ true → runs_after c outs runs ≡ runs
    by_call (call.Now tick) plain = absurd (false≢true plain)
    by_call (call.Stop ok) plain = absurd (false≢true plain)
    by_call (call.Receive got) plain = refl
    by_call (call.Read sector bytes ok) plain = refl
    by_call (call.Write sector bytes ok) plain = refl
    by_call (call.Feed ok) plain = refl
    by_call (call.Start ok) plain = refl
    by_call (call.Send to bytes ok) plain = refl
    by_call (call.Disarm ok) plain = refl
    by_call (call.Halt code) plain = refl
    by_call (call.OpenImage path ok) plain = refl
    by_call (call.OpenNode images image watchdog resource port rank ok) plain = refl

now_runs : (made : Call) (outs : List Out) (runs : Bool) → Some (call.Now 0) ≡ Some (blank made) → runs_after made outs runs ≡ (has_start outs || runs)
now_runs (call.Now tick) outs runs is = refl
now_runs (call.Stop ok) outs runs is = absurd cc
now_runs (call.Receive got) outs runs is = absurd cc
now_runs (call.Read sector bytes ok) outs runs is = absurd cc
now_runs (call.Write sector bytes ok) outs runs is = absurd cc
now_runs (call.Feed ok) outs runs is = absurd cc
now_runs (call.Start ok) outs runs is = absurd cc
now_runs (call.Send to bytes ok) outs runs is = absurd cc
now_runs (call.Disarm ok) outs runs is = absurd cc
now_runs (call.Halt code) outs runs is = absurd cc
now_runs (call.OpenImage path ok) outs runs is = absurd cc
now_runs (call.OpenNode images image watchdog resource port rank ok) outs runs is = absurd cc

stop_runs : (made : Call) (outs : List Out) (runs : Bool) → Some (call.Stop true) ≡ Some (blank made) → runs_after made outs runs ≡ (is_failed made && runs)
stop_runs (call.Stop ok) outs runs is = refl
stop_runs (call.Now tick) outs runs is = absurd cc
stop_runs (call.Receive got) outs runs is = absurd cc
stop_runs (call.Read sector bytes ok) outs runs is = absurd cc
stop_runs (call.Write sector bytes ok) outs runs is = absurd cc
stop_runs (call.Feed ok) outs runs is = absurd cc
stop_runs (call.Start ok) outs runs is = absurd cc
stop_runs (call.Send to bytes ok) outs runs is = absurd cc
stop_runs (call.Disarm ok) outs runs is = absurd cc
stop_runs (call.Halt code) outs runs is = absurd cc
stop_runs (call.OpenImage path ok) outs runs is = absurd cc
stop_runs (call.OpenNode images image watchdog resource port rank ok) outs runs is = absurd cc

packet_stops : (p : Packet) → answers_stop (entry_of p) ≡ false
packet_stops (packet.Ask ask) = refl
packet_stops (packet.Tell tell) = refl
packet_stops (packet.Vote agrees) = refl
packet_stops (packet.Hello from) = refl
packet_stops (packet.Heard from said standing) = refl
packet_stops (packet.Announce from view) = refl

-- an entry that answers no stop is none
none_stopped : (entry : What) → answers_stop entry ≡ false → is_stopped entry ≡ true → ⊥
none_stopped entry none is = quiet_stops entry (ap not none) is

-- what is chosen of what came stops nothing
abbrev StopsNone : Choice → Type 0
StopsNone chosen = stops_in chosen ≡ true → ⊥

chosen_stops : (me : ℕ) (p : Option Packet) → StopsNone (choice_of me p)
chosen_stops me None = λ is. false≢true is
chosen_stops me (Some p) = by_test (is_entry_for me p)
  where
    by_test : (b : Bool) → StopsNone (if b then choice.Whole (entry_of p) else choice.Open (Some p))
    by_test true = λ is. none_stopped (entry_of p) (packet_stops p) is
    by_test false = λ is. false≢true is

beside_stops : (me : ℕ) (reply : Option Reply) (before : Choice) → StopsNone before → StopsNone (choice_beside me reply before)
beside_stops me (Some reply) before none = by_test (is_reply_for me reply)
  where
    by_test : (b : Bool) → StopsNone (if b then choice.Answer reply else choice.Open None)
    by_test true = λ is. false≢true is
    by_test false = λ is. false≢true is
beside_stops me None (choice.Whole entry) none = by_test (is_device entry)
  where
    by_test : (b : Bool) → StopsNone (if b then choice.Open None else choice.Whole entry)
    by_test true = λ is. false≢true is
    by_test false = λ is. none is
beside_stops me None (choice.Open p) none = λ is. false≢true is
beside_stops me None (choice.Answer reply) none = λ is. false≢true is

received_stops : (me : ℕ) (poller : Option Poller) (got : Received) → StopsNone (choice_in me poller got)
received_stops me None got = chosen_stops me (packet_in got)
received_stops me (Some poller) got = beside_stops me (reply_in got) (choice_of me (packet_in got)) (chosen_stops me (packet_in got))

-- at its tick a choice is a stop that succeeded where it was one
answered_stops : (tick : ℕ) (poller : Option Poller) (chosen : Choice) → stops_in (answered_at tick poller chosen) ≡ stops_in chosen
answered_stops tick poller (choice.Whole entry) = refl
answered_stops tick poller (choice.Open p) = refl
answered_stops tick poller (choice.Answer reply) = by_answer (option_and_then (answer_taken tick reply) poller)
  where
    by_answer : (answer : Option Bool) → stops_in (option_map_or (λ agrees. choice.Whole (what.Device agrees)) answer (choice.Open None)) ≡ false
    by_answer None = refl
    by_answer (Some agrees) = refl

failed_answers : (op : DiskOp) → answers_stop (failed op) ≡ false
unfolding failed
failed_answers disk.ReadHeader = refl
failed_answers (disk.ReadSlot rank) = refl
failed_answers disk.CheckMail = refl
failed_answers disk.ReadMail = refl
failed_answers (disk.WriteClaim number) = refl
failed_answers (disk.WriteClose number) = refl
failed_answers disk.WriteClear = refl
failed_answers (disk.WriteReset rank) = refl

done_answers : (s : Settings) (op : DiskOp) (bytes : List ℕ) → answers_stop (done s op bytes) ≡ false
unfolding done
done_answers s disk.ReadHeader bytes = refl
done_answers s (disk.ReadSlot rank) bytes = refl
done_answers s disk.CheckMail bytes = refl
done_answers s disk.ReadMail bytes = refl
done_answers s (disk.WriteClaim number) bytes = refl
done_answers s (disk.WriteClose number) bytes = refl
done_answers s disk.WriteClear bytes = refl
done_answers s (disk.WriteReset rank) bytes = refl

disk_answers : (s : Settings) (op : DiskOp) (made : Call) → answers_stop (disk_answer s op made) ≡ false
disk_answers s op made = by_failed (is_failed made)
  where
    by_failed : (b : Bool) → answers_stop (if b then failed op else done s op (bytes_read made)) ≡ false
    by_failed true = failed_answers op
    by_failed false = done_answers s op (bytes_read made)

disk_other : (s : Settings) (me number : ℕ) (op : DiskOp) → is_other_call (disk_call s me number op) ≡ true
unfolding disk_call
disk_other s me number disk.ReadHeader = refl
disk_other s me number (disk.ReadSlot rank) = refl
disk_other s me number disk.CheckMail = refl
disk_other s me number disk.ReadMail = refl
disk_other s me number (disk.WriteClaim next) = refl
disk_other s me number (disk.WriteClose own) = refl
disk_other s me number disk.WriteClear = refl
disk_other s me number (disk.WriteReset rank) = refl

-- a stop was tried: it succeeded, or what ran runs
tried : (st : RunState) (failed_so runs : Bool) → (holds st.log ≡ true → runs ≡ true) → holds st.log ≡ true
    → ((failed_so && runs) ≡ true) ⊎ (is_done_stop (Some (not failed_so)) ≡ true)
tried st true runs held is = inl (held is)
tried st false runs held is = inr refl

-- an output was performed
record Performed (s : Settings) (st : RunState) (o : Out) (made : Call) (rest : List Out) (runs : Bool) : Type 0 where
  keeps : Keeps (noted s o made st) runs
  ahead : Ahead (noted s o made st) rest

performed : (s : Settings) (me : ℕ) (st : RunState) (o : Out) (made : Call) (outs rest : List Out) (runs : Bool)
    → Some (out_call s me (own_number st.log) o) ≡ Some (blank made) → Keeps st runs → Ahead st (o ∷ rest)
    → Performed s st o made rest (runs_after made outs runs)
unfolding out_call waits_after
performed s me st out.Stop made outs rest runs asked keeps ahead =
    let none = rest_none rest ahead.once in
    subst (λ r. Performed s st out.Stop made rest r) (sym (stop_runs made outs runs asked))
    (record {
      keeps = record {
        held = tried st (is_failed made) runs (still st.log st.waits.stopped runs (ahead.free refl) keeps.held);
        due = λ one. ahead.due refl;
        calm = keeps.calm;
      };
      ahead = record { once = rest_once out.Stop rest ahead.once; free = λ is. absurd (false≢true (sym none ∙ is)); due = λ is. absurd (false≢true (sym none ∙ is)) };
    })
performed s me st out.Start made outs rest runs asked keeps ahead =
    subst (λ r. Performed s st out.Start made rest r) (sym (runs_on (call.Start true) made outs runs refl asked))
    (record { keeps = record { held = keeps.held; due = keeps.due; calm = keeps.calm }; ahead = record { once = rest_once out.Start rest ahead.once; free = ahead.free; due = ahead.due } })
performed s me st out.Feed made outs rest runs asked keeps ahead =
    subst (λ r. Performed s st out.Feed made rest r) (sym (runs_on (call.Feed true) made outs runs refl asked))
    (record { keeps = record { held = keeps.held; due = keeps.due; calm = keeps.calm }; ahead = record { once = rest_once out.Feed rest ahead.once; free = ahead.free; due = ahead.due } })
performed s me st (out.Send to sent) made outs rest runs asked keeps ahead =
    subst (λ r. Performed s st (out.Send to sent) made rest r) (sym (runs_on _ made outs runs refl asked))
    (record { keeps = record { held = keeps.held; due = keeps.due; calm = keeps.calm }; ahead = record { once = rest_once (out.Send to sent) rest ahead.once; free = ahead.free; due = ahead.due } })
performed s me st (out.Disk op) made outs rest runs asked keeps ahead =
    subst (λ r. Performed s st (out.Disk op) made rest r) (sym (runs_on _ made outs runs (disk_other s me (own_number st.log) op) asked))
    (record {
      keeps = record { held = keeps.held; due = keeps.due; calm = ap not (disk_answers s op made) };
      ahead = record { once = rest_once (out.Disk op) rest ahead.once; free = ahead.free; due = ahead.due };
    })
performed s me st out.Disarm made outs rest runs asked keeps ahead =
    subst (λ r. Performed s st out.Disarm made rest r) (sym (runs_on (call.Disarm true) made outs runs refl asked))
    (record { keeps = record { held = keeps.held; due = keeps.due; calm = keeps.calm }; ahead = record { once = rest_once out.Disarm rest ahead.once; free = ahead.free; due = ahead.due } })
performed s me st (out.Halt kind) made outs rest runs asked keeps ahead =
    subst (λ r. Performed s st (out.Halt kind) made rest r) (sym (runs_on _ made outs runs refl asked))
    (record { keeps = record { held = keeps.held; due = keeps.due; calm = keeps.calm }; ahead = record { once = rest_once (out.Halt kind) rest ahead.once; free = ahead.free; due = ahead.due } })

-- a look at the clock
back_runs : (chosen : Choice × RunState) (outs : List Out) (runs : Bool) → Takes chosen.1.log chosen.1.waits chosen.0 runs → holds chosen.1.log ≡ true
    → ((has_start outs || runs) ≡ true) ⊎ (stop_due chosen.1.log ≡ true)
back_runs chosen outs runs takes held = by_either (takes.held held)
  where
    by_either : (runs ≡ true) ⊎ (stops_in chosen.0 ≡ true) → ((has_start outs || runs) ≡ true) ⊎ (stop_due chosen.1.log ≡ true)
    by_either (inl is) = inl (or_right (has_start outs) runs is)
    by_either (inr is) = inr (takes.due is)

clocked_runs : (s : Settings) (me : ℕ) (leave : Option ℕ) (turn more tick : ℕ) (chosen : Choice × RunState) (back : Bool) (runs : Bool)
    → Takes chosen.1.log chosen.1.waits chosen.0 runs
    → RunsAt (clocked_by s me leave turn more chosen tick back).spot
    (has_start (newest_outs (log_at (clocked_by s me leave turn more chosen tick back).spot)) || runs)
clocked_runs s me leave turn more tick chosen true runs takes = back_runs chosen (newest_outs chosen.1.log) runs takes
clocked_runs s me leave turn more tick chosen false runs takes =
    subst (λ log. RunsAt spot (has_start (newest_outs log) || runs)) (sym (acts_keep_log found.1 (newest_outs after.log) (newest_outs after.log) after))
    (acts_runs s me leave turn more found.1 (newest_outs after.log) (newest_outs after.log) after (has_start (newest_outs after.log) || runs)
    (taken_keeps s me st tick (own_of st) (answered tick chosen).0 runs
    (record {
      held = λ is. subst (λ b. (runs ≡ true) ⊎ (b ≡ true)) (sym (answered_stops tick chosen.1.poller chosen.0)) (takes.held is);
      due = λ is. takes.due (sym (answered_stops tick chosen.1.poller chosen.0) ∙ is);
      free = takes.free;
      calm = takes.calm;
    }))
    (taken_ahead s me st tick found takes.free))
  where
    st : RunState
    st = looking tick (answered tick chosen)

    found : Option NamingMaker × What
    found = looked_at tick (answered tick chosen)

    after : RunState
    after = taken s me st tick found

    spot : Spot
    spot = (acts_at s me leave turn more found.1 (newest_outs after.log) (newest_outs after.log) after).spot

    acts_keep_log : (entry : What) (outs rest : List Out) (k : RunState) → log_at (acts_at s me leave turn more entry outs rest k).spot ≡ k.log
    acts_keep_log entry outs [] k = settled_keep_log entry k (end_in entry outs)
      where
        begun_keep_log : (n : RunState) (left : ℕ) → log_at (begun_at s me leave turn left n).spot ≡ n.log
        begun_keep_log n zero = refl
        begun_keep_log n (suc left) = by_ready (ready (is_to_leave s leave turn n) n.rests n.waits)
          where
            by_late : (late : Bool) → log_at (opening n late) ≡ n.log
            by_late true = refl
            by_late false = refl

            by_ready : (ready_now : Option (What × Waits)) → log_at (taking n ready_now) ≡ n.log
            by_ready None = by_late (is_late n)
            by_ready (Some it) = refl

        said_keep_log : (n : RunState) (sents : List Sent) → log_at (said_at s me leave turn more n sents).spot ≡ n.log
        said_keep_log n [] = begun_keep_log n more
        said_keep_log n (sent ∷ left) = refl

        polled_keep_log : (n : RunState) (sents : List Sent) (poll : Option Poll) → log_at (polled_at s me leave turn more n sents poll).spot ≡ n.log
        polled_keep_log n sents None = said_keep_log n sents
        polled_keep_log n sents (Some poll) = refl

        parts_keep_log : (end : LiveEnd) (n : RunState) (sents : List Sent) → log_at (parts_at turn more end n sents).spot ≡ n.log
        parts_keep_log end n [] = refl
        parts_keep_log end n (sent ∷ left) = refl

        settled_keep_log : (e : What) (n : RunState) (ended : Option LiveEnd) → log_at (settled_by s me leave turn more e n ended).spot ≡ n.log
        settled_keep_log e n None =
            polled_keep_log (polled s me (greets s me n) e (asked_maker s me n)) (sends_due s me n) (poll_due s me (greets s me n) e (asked_maker s me n))
        settled_keep_log e n (Some end) = parts_keep_log end n (farewells_due s me end n)
    acts_keep_log entry outs (o ∷ rest) k = refl

pub spot_goes_on : (s : Settings) (me : ℕ) (leave : Option ℕ) (turn more : ℕ) (spot : Spot) (made : Call) (runs : Bool)
    → question (left_plan s me leave turn more spot) ≡ Some (blank made)
    → RunsAt spot runs
    → RunsAt (after_spot s me leave turn more spot made).spot (runs_after made (newest_outs (log_at (after_spot s me leave turn more spot made).spot)) runs)
unfolding left_plan after_spot outs_plan sends_plan
spot_goes_on s me leave turn more (Receiving st) made runs asked at =
    subst (λ r. RunsAt (Looking (choice_in me st.poller (received_in made), heard_request (received_in made) st)) r) (sym (runs_on _ made (newest_outs st.log) runs refl asked))
    (record {
      held = λ is. inl (still st.log st.waits.stopped runs at.1 at.0.held is);
      due = λ is. absurd (received_stops me st.poller (received_in made) is);
      free = at.1;
      calm = at.0.calm;
    })
spot_goes_on s me leave turn more (Looking chosen) made runs asked at =
    let after = clocked_by s me leave turn more chosen (time_of made) (nat_lt (time_of made) (now chosen.1.log)) in
    subst (λ r. RunsAt after.spot r) (sym (now_runs made (newest_outs (log_at after.spot)) runs asked))
    (clocked_runs s me leave turn more (time_of made) chosen (nat_lt (time_of made) (now chosen.1.log)) runs at)
spot_goes_on s me leave turn more (Acting entry outs o rest st) made runs asked at =
    let after = acts_at s me leave turn more entry outs rest (noted s o made st) in
    let done_so = performed s me st o made (newest_outs (log_at after.spot)) rest runs asked at.0 at.1 in
    acts_runs s me leave turn more entry outs rest (noted s o made st) (runs_after made (newest_outs (log_at after.spot)) runs) done_so.keeps done_so.ahead
spot_goes_on s me leave turn more (Polling poll sents st) made runs asked at =
    let after = said_at s me leave turn more st sents in
    subst (λ r. RunsAt after.spot r) (sym (runs_on _ made (newest_outs (log_at after.spot)) runs refl asked)) (said_runs s me leave turn more st sents runs at)
spot_goes_on s me leave turn more (Saying sent rest st) made runs asked at =
    let after = said_at s me leave turn more st rest in
    subst (λ r. RunsAt after.spot r) (sym (runs_on _ made (newest_outs (log_at after.spot)) runs refl asked)) (said_runs s me leave turn more st rest runs at)
spot_goes_on s me leave turn more (Parting end sent rest st) made runs asked at =
    let after = parts_at turn more end st rest in
    subst (λ r. RunsAt after.spot r) (sym (runs_on _ made (newest_outs (log_at after.spot)) runs refl asked)) (parts_runs turn more end st rest runs at)
spot_goes_on s me leave turn more (Ended ran) made runs asked at = absurd cc

pub first_runs : (clean : Bool) (polls : Option ℕ) (turns : ℕ) (runs : Bool) → RunsAt (first_stand clean polls turns).spot runs
unfolding holds
first_runs true polls turns runs = record { held = λ is. absurd (false≢true is); due = λ is. absurd (false≢true is); free = refl; calm = refl }
first_runs false polls turns runs = record { held = λ is. absurd (false≢true is); due = λ is. absurd (false≢true is); free = refl; calm = refl }

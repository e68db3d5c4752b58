-- Where a call returns, a resource that runs is still held.
use Rattle.std.proofs.Common.{◌≡◌, ℕ, suc, zero, Bool, true, false, not, ◌&&◌, ◌||◌, List, Option, None, Some, if◌then◌else◌, refl, sym, ap, subst, ◌∙◌}
use Rattle.std.specs.Prelude.{nat_lt}
use Rattle.std.proofs.lemmas.Option.{same_Some}
use Rattle.qn_base.specs.declared.calls.Call.{Call}
use Rattle.qn_base.specs.declared.calls.Call.TheVariants as call
use Rattle.qn_base.specs.Calls.{blank, is_failed}
use Rattle.qn_base.specs.Plans.{question}
use Rattle.qn_io.specs.Answered.{bytes_read, received_in, time_of}
use Rattle.qn_model.specs.declared.configuration.Settings.{Settings}
use Rattle.qn_model.specs.declared.outputs.DiskOp.{DiskOp}
use Rattle.qn_model.specs.declared.outputs.DiskOp.TheVariants as disk
use Rattle.qn_model.specs.declared.outputs.Out.{Out}
use Rattle.qn_model.specs.declared.outputs.Out.TheVariants as out
use Rattle.qn_model.specs.declared.packets.Packet.{Packet}
use Rattle.qn_model.specs.declared.packets.Packet.TheVariants as packet
use Rattle.qn_model.specs.Log.{has_start, now}
use Rattle.qn_model.specs.Holding.{holds, is_stopped}
use Rattle.qn_model.specs.NodeOutputs.{newest_outs}
use Rattle.qn_model.specs.Steps.{entry_of}
use Rattle.qn_model.specs.World.{failed}
use Rattle.qn_live.specs.declared.place.Choice.{Choice}
use Rattle.qn_live.specs.declared.place.Choice.TheVariants as choice
use Rattle.qn_live.specs.Running.{RunState}
use Rattle.qn_live.specs.Choosing.{choice_in, choice_of, heard_request, is_entry_for, packet_in}
use Rattle.qn_live.specs.Greetings.{sends_plan}
use Rattle.qn_live.specs.Performing.{disk_answer, disk_call, done, noted, out_call, outs_plan, own_number, waits_after}
use Rattle.qn_joined.specs.Stands.{Spot, Receiving, Looking, Acting, Polling, Saying, Parting, Ended, after_call, after_spot, left_plan, log_at, parts_at, said_at}
use Rattle.qn_joined.specs.Joints.{Host, after_effect, returned, waits_for}
use Rattle.qn_joined.specs.Owning.{Owns, is_done_stop, stops_in}
use Rattle.qn_joined.proofs.Moving.{op_answers}
use Rattle.qn_joined.proofs.Owning.{Fine, acts_owns, looks_own, parts_owns, said_owns}
use Rattle.qn_safety.specs.declared.polls.Reply.{Reply}
use Rattle.qn_safety.specs.Poller.{Poller}
use Rattle.qn_live.specs.Polling.{choice_beside, is_device, is_reply_for, reply_in}
use Rattle.qn_base.specs.declared.calls.Received.{Received}

-- what a call does to the resource: 1 looks at the clock, 2 stops it, 0 nothing
abbrev kind : Call → ℕ
kind (call.Now tick) = 1
kind (call.Stop ok) = 2
kind other = 0

kind_blank : (made : Call) → kind (blank made) ≡ kind made
kind_blank (call.Now tick) = refl
kind_blank (call.Receive got) = refl
kind_blank (call.Read sector bytes ok) = refl
kind_blank (call.Write sector bytes ok) = refl
kind_blank (call.Feed ok) = refl
kind_blank (call.Start ok) = refl
kind_blank (call.Stop ok) = refl
kind_blank (call.Send to bytes ok) = refl
kind_blank (call.Disarm ok) = refl
kind_blank (call.Halt code) = refl
kind_blank (call.OpenImage path ok) = refl
kind_blank (call.OpenNode images image watchdog resource port rank ok) = refl

-- what runs after a call, by its kind
abbrev runs_by : ℕ → Call → List Out → Bool → Bool
runs_by zero made outs runs = runs
runs_by (suc zero) made outs runs = has_start outs || runs
runs_by (suc (suc more)) made outs runs = is_failed made && runs

effect_runs : (made : Call) (outs : List Out) (time : ℕ) (host : Host) → (after_effect made outs time host).runs ≡ runs_by (kind made) made outs host.runs
effect_runs (call.Now tick) outs time host = refl
effect_runs (call.Receive got) outs time host = refl
effect_runs (call.Read sector bytes ok) outs time host = refl
effect_runs (call.Write sector bytes ok) outs time host = refl
effect_runs (call.Feed ok) outs time host = refl
effect_runs (call.Start ok) outs time host = refl
effect_runs (call.Stop ok) outs time host = refl
effect_runs (call.Send to bytes ok) outs time host = refl
effect_runs (call.Disarm ok) outs time host = refl
effect_runs (call.Halt code) outs time host = refl
effect_runs (call.OpenImage path ok) outs time host = refl
effect_runs (call.OpenNode images image watchdog resource port rank ok) outs time host = refl

-- the kind of a call that was asked for
kind_of : (asked made : Call) (k : ℕ) → kind asked ≡ k → Some asked ≡ Some (blank made) → kind made ≡ k
kind_of asked made k is e = sym (kind_blank made) ∙ sym (ap kind (same_Some _ _ e)) ∙ is

-- no packet is a stop
entry_no_stop : (p : Packet) → is_stopped (entry_of p) ≡ false
entry_no_stop (packet.Ask ask) = refl
entry_no_stop (packet.Tell tell) = refl
entry_no_stop (packet.Vote agrees) = refl
entry_no_stop (packet.Hello from) = refl
entry_no_stop (packet.Heard from said standing) = refl
entry_no_stop (packet.Announce from view) = refl

choice_no_stop : (me : ℕ) (p : Option Packet) → stops_in (choice_of me p) ≡ false
choice_no_stop me None = refl
choice_no_stop me (Some p) = by_test (is_entry_for me p)
  where
    by_test : (is_mine : Bool) → stops_in (if is_mine then choice.Whole (entry_of p) else choice.Open (Some p)) ≡ false
    by_test true = entry_no_stop p
    by_test false = refl

beside_no_stop : (me : ℕ) (reply : Option Reply) (before : Choice) → stops_in before ≡ false → stops_in (choice_beside me reply before) ≡ false
beside_no_stop me (Some reply) before is = by_test (is_reply_for me reply)
  where
    by_test : (is_mine : Bool) → stops_in (if is_mine then choice.Answer reply else choice.Open None) ≡ false
    by_test true = refl
    by_test false = refl
beside_no_stop me None (choice.Whole entry) is = by_test (is_device entry)
  where
    by_test : (device : Bool) → stops_in (if device then choice.Open None else choice.Whole entry) ≡ false
    by_test true = refl
    by_test false = is
beside_no_stop me None (choice.Open p) is = refl
beside_no_stop me None (choice.Answer reply) is = refl

received_no_stop : (me : ℕ) (poller : Option Poller) (got : Received) → stops_in (choice_in me poller got) ≡ false
received_no_stop me None got = choice_no_stop me (packet_in got)
received_no_stop me (Some poller) got = beside_no_stop me (reply_in got) (choice_of me (packet_in got)) (choice_no_stop me (packet_in got))

answer_calm : (s : Settings) (op : DiskOp) (made : Call) → is_stopped (disk_answer s op made) ≡ false
answer_calm s op made = by_failed (is_failed made)
  where
    by_failed : (is : Bool) → is_stopped (if is then failed op else done s op (bytes_read made)) ≡ false
    by_failed true = (op_answers s op (bytes_read made)).1
    by_failed false = (op_answers s op (bytes_read made)).3

disk_kind : (s : Settings) (me number : ℕ) (op : DiskOp) → kind (disk_call s me number op) ≡ 0
unfolding disk_call
disk_kind s me number disk.ReadHeader = refl
disk_kind s me number (disk.ReadSlot rank) = refl
disk_kind s me number disk.CheckMail = refl
disk_kind s me number disk.ReadMail = refl
disk_kind s me number (disk.WriteClaim next) = refl
disk_kind s me number (disk.WriteClose own) = refl
disk_kind s me number disk.WriteClear = refl
disk_kind s me number (disk.WriteReset rank) = refl

stop_held : (st : RunState) (failed runs : Bool) → (runs ≡ true → (holds st.log ≡ true) × (is_done_stop st.waits.stopped ≡ false))
    → (failed && runs) ≡ true → (holds st.log ≡ true) × (not failed ≡ false)
stop_held st true runs held r = ((held r).0, refl)
stop_held st false runs held r = absurd cc

-- an output was performed
noted_fine : (s : Settings) (me : ℕ) (st : RunState) (o : Out) (made : Call) (outs : List Out) (runs : Bool)
    → Some (out_call s me (own_number st.log) o) ≡ Some (blank made)
    → Fine st runs → Fine (noted s o made st) (runs_by (kind made) made outs runs)
unfolding out_call waits_after
noted_fine s me st out.Stop made outs runs asked fine =
    subst (λ (k : ℕ). Fine (noted s out.Stop made st) (runs_by k made outs runs)) (sym (kind_of (call.Stop true) made 2 refl asked))
    (record { held = stop_held st (is_failed made) runs fine.held; calm = fine.calm })
noted_fine s me st out.Start made outs runs asked fine =
    subst (λ (k : ℕ). Fine (noted s out.Start made st) (runs_by k made outs runs)) (sym (kind_of (call.Start true) made 0 refl asked)) (record { held = fine.held; calm = fine.calm })
noted_fine s me st out.Feed made outs runs asked fine =
    subst (λ (k : ℕ). Fine (noted s out.Feed made st) (runs_by k made outs runs)) (sym (kind_of (call.Feed true) made 0 refl asked)) (record { held = fine.held; calm = fine.calm })
noted_fine s me st (out.Send to packet) made outs runs asked fine =
    subst (λ (k : ℕ). Fine (noted s (out.Send to packet) made st) (runs_by k made outs runs)) (sym (kind_of _ made 0 refl asked)) (record { held = fine.held; calm = fine.calm })
noted_fine s me st (out.Disk op) made outs runs asked fine =
    subst (λ (k : ℕ). Fine (noted s (out.Disk op) made st) (runs_by k made outs runs)) (sym (kind_of _ made 0 (disk_kind s me (own_number st.log) op) asked))
    (record { held = fine.held; calm = ap not (answer_calm s op made) })
noted_fine s me st out.Disarm made outs runs asked fine =
    subst (λ (k : ℕ). Fine (noted s out.Disarm made st) (runs_by k made outs runs)) (sym (kind_of (call.Disarm true) made 0 refl asked)) (record { held = fine.held; calm = fine.calm })
noted_fine s me st (out.Halt halted) made outs runs asked fine =
    subst (λ (k : ℕ). Fine (noted s (out.Halt halted) made st) (runs_by k made outs runs)) (sym (kind_of _ made 0 refl asked)) (record { held = fine.held; calm = fine.calm })

spot_owns : (s : Settings) (me : ℕ) (leave : Option ℕ) (turn more : ℕ) (spot : Spot) (made : Call) (runs : Bool)
    → question (left_plan s me leave turn more spot) ≡ Some (blank made)
    → Owns spot runs
    → Owns (after_spot s me leave turn more spot made).spot (runs_by (kind made) made (newest_outs (log_at (after_spot s me leave turn more spot made).spot)) runs)
unfolding left_plan after_spot outs_plan sends_plan
spot_owns s me leave turn more (Receiving st) made runs asked owns =
    subst (λ (k : ℕ). Owns (Looking (choice_in me st.poller (received_in made), heard_request (received_in made) st)) (runs_by k made (newest_outs st.log) runs)) (sym (kind_of _ made 0 refl asked))
    (record { held = λ r. ((owns.held r).0, received_no_stop me st.poller (received_in made)); free = owns.free; calm = owns.calm })
spot_owns s me leave turn more (Looking chosen) made runs asked owns =
    subst (λ (k : ℕ). Owns (after_spot s me leave turn more (Looking chosen) made).spot (runs_by k made (newest_outs (log_at (after_spot s me leave turn more (Looking chosen) made).spot)) runs)) (sym (kind_of _ made 1 refl asked))
    (looks_own s me leave turn more chosen (time_of made) runs (nat_lt (time_of made) (now chosen.1.log)) owns)
spot_owns s me leave turn more (Acting entry outs o rest st) made runs asked owns =
    acts_owns s me leave turn more entry outs rest (noted s o made st) (runs_by (kind made) made (newest_outs (log_at (after_spot s me leave turn more (Acting entry outs o rest st) made).spot)) runs)
    (noted_fine s me st o made (newest_outs (log_at (after_spot s me leave turn more (Acting entry outs o rest st) made).spot)) runs asked (record { held = owns.held; calm = owns.calm }))
spot_owns s me leave turn more (Polling poll sents st) made runs asked owns =
    subst (λ (k : ℕ). Owns (said_at s me leave turn more st sents).spot (runs_by k made (newest_outs (log_at (said_at s me leave turn more st sents).spot)) runs)) (sym (kind_of _ made 0 refl asked))
    (said_owns s me leave turn more st sents runs (record { held = owns.held; calm = owns.calm }))
spot_owns s me leave turn more (Saying sent rest st) made runs asked owns =
    subst (λ (k : ℕ). Owns (said_at s me leave turn more st rest).spot (runs_by k made (newest_outs (log_at (said_at s me leave turn more st rest).spot)) runs)) (sym (kind_of _ made 0 refl asked))
    (said_owns s me leave turn more st rest runs (record { held = owns.held; calm = owns.calm }))
spot_owns s me leave turn more (Parting end sent rest st) made runs asked owns =
    subst (λ (k : ℕ). Owns (parts_at turn more end st rest).spot (runs_by k made (newest_outs (log_at (parts_at turn more end st rest).spot)) runs)) (sym (kind_of _ made 0 refl asked))
    (parts_owns turn more end st rest runs (record { held = owns.held; calm = owns.calm }))
spot_owns s me leave turn more (Ended ran) made runs asked owns = absurd cc

pub returns_own : (s : Settings) (me time : ℕ) (host : Host) (made : Call)
    → waits_for s me host ≡ Some (blank made)
    → Owns host.stand.spot host.runs
    → Owns (returned s me made time host).stand.spot (returned s me made time host).runs
unfolding returned
returns_own s me time host made asked owns =
    let after = after_call s me host.leave host.stand made in
    subst (λ (b : Bool). Owns after.spot b) (sym (effect_runs made (newest_outs (log_at after.spot)) time host))
    (spot_owns s me host.leave host.stand.turn host.stand.more host.stand.spot made host.runs asked owns)

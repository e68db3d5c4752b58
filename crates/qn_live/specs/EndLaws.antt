-- The laws of ends by a failed call and by the clock, proved over the plan of a run: what the crates above cite.
use Rattle.std.proofs.Common.{◌≡◌, ◌⊎◌, inl, inr, ℕ, zero, suc, ◌+◌, ◌-◌, ◌^◌, Bool, true, false, not, ◌||◌, ◌==◌, ◌++◌, List, [], ◌∷◌, Option, None, Some, IfSome, length, nat_lt, refl, sym, ap, ◌∙◌, subst, if◌then◌else◌}
use Rattle.std.specs.List.{list_any}
use Rattle.std.specs.Prelude.{option_and_then}
use Rattle.std.specs.Option.{option_map_or}
use Rattle.std.proofs.lemmas.Bool.{le-ltb, or_right, or_from}
use Rattle.qn_base.specs.declared.calls.Call.{Call}
use Rattle.qn_base.specs.declared.calls.Call.TheVariants as call
use Rattle.qn_base.specs.declared.calls.Received.TheVariants as received
use Rattle.qn_base.specs.declared.ids.NodeId.{NodeId}
use Rattle.qn_base.specs.declared.ids.View.{View}
use Rattle.qn_base.specs.Calls.{blank, is_failed, some_failed}
use Rattle.qn_base.specs.Plans.{Plan, Ends, Asks, ◌>>=◌, Follows}
use Rattle.qn_base.specs.PlanSteps.{some_failed-append}
use Rattle.qn_io.specs.Answered.{bytes_read, received_in, time_of}
use Rattle.qn_member.specs.Naming.{NamingMaker}
use Rattle.qn_member.specs.NamingViews.{answer_at}
use Rattle.qn_model.specs.declared.configuration.Settings.{Settings}
use Rattle.qn_model.specs.declared.disk.Slot.{Slot}
use Rattle.qn_model.specs.declared.mailbox.Mail.{Mail}
use Rattle.qn_model.specs.declared.seen.HeaderSeen.TheVariants as header
use Rattle.qn_model.specs.declared.seen.MailSeen.TheVariants as mail
use Rattle.qn_model.specs.declared.seen.SlotSeen.TheVariants as slot
use Rattle.qn_model.specs.declared.times.Timing.{Timing}
use Rattle.qn_model.specs.declared.entries.What.{What}
use Rattle.qn_model.specs.declared.entries.What.TheVariants as what
use Rattle.qn_model.specs.declared.outputs.BootCause.{BootCause}
use Rattle.qn_model.specs.declared.outputs.BootCause.TheVariants as cause
use Rattle.qn_model.specs.declared.outputs.DiskOp.{DiskOp}
use Rattle.qn_model.specs.declared.outputs.DiskOp.TheVariants as disk
use Rattle.qn_model.specs.declared.outputs.HaltKind.TheVariants as halt
use Rattle.qn_model.specs.declared.outputs.Out.{Out}
use Rattle.qn_model.specs.declared.outputs.Out.TheVariants as out
use Rattle.qn_model.specs.declared.packets.Packet.{Packet}
use Rattle.qn_model.specs.declared.packets.Packet.TheVariants as packet
use Rattle.qn_model.specs.declared.packets.Sent.{Sent}
use Rattle.qn_model.specs.Fitting.{fits, read_as}
use Rattle.qn_model.specs.Log.{Line, begins_clean, now, slot_number}
use Rattle.qn_model.specs.Moments.{begin_of}
use Rattle.qn_model.specs.NodeOutputs.{boot_outs, boot_step_outs, is_boot_step, live_outs, mail_feeds, newest_outs, outs_at, with_entry}
use Rattle.qn_model.specs.Phases.{boot_halt, check_halt, deadly_of, header_halt, is_booting, is_live, message_of, phase, slot_halt, starts_clean_on}
use Rattle.qn_model.specs.Steps.{entry_of}
use Rattle.qn_model.specs.Timing.{is_safe}
use Rattle.qn_model.specs.Unmet.{id_of}
use Rattle.qn_model.specs.World.{failed}
use Rattle.qn_sector.specs.Reading.{header_of, mail_of, slot_of}
use Rattle.qn_wire.specs.Packets.{packet_bytes}
use Rattle.qn_live.specs.declared.live_end.LiveEnd.{LiveEnd}
use Rattle.qn_live.specs.declared.live_end.LiveEnd.TheVariants as end
use Rattle.qn_live.specs.declared.place.Choice.{Choice}
use Rattle.qn_live.specs.declared.place.Choice.TheVariants as choice
use Rattle.qn_live.specs.declared.place.Waits.{Waits}
use Rattle.qn_live.specs.CalmOutputs.{calm_boot, calm_live, calm_outs}
use Rattle.qn_live.specs.Choosing.{choice_of, choice_plan, is_entry_for, is_late, is_to_leave, looked, looking, open_plan, own_of, packet_in, ready, told, view_or_tick}
use Rattle.qn_live.specs.Greetings.{farewell_after, farewells, hellos_where, sends_plan}
use Rattle.qn_live.specs.Halts.{HaltedBy, IsNewest, is_on_disk, one_call}
use Rattle.qn_live.specs.Performing.{disk_answer, disk_call, done, end_in, halt_code, noted, out_call, outs_plan, own_number, waits_after}
use Rattle.qn_base.specs.declared.calls.Received.{Received}
use Rattle.qn_safety.specs.declared.polls.Poll.{Poll}
use Rattle.qn_safety.specs.declared.polls.Reply.{Reply}
use Rattle.qn_safety.specs.Poller.{Poller, answer_taken}
use Rattle.qn_live.specs.Polling.{answered, answered_at, choice_beside, is_device, is_reply_for, poll_call, poll_due, poll_plan, polled, reply_in}
use Rattle.qn_live.specs.Choosing.{choice_in}
use Rattle.qn_live.specs.declared.words.Own.{Own}
use Rattle.qn_live.specs.Running.{RunState, Turned, Over, Next, Ran, first_state, later}
use Rattle.qn_live.specs.Runs.{asked_maker, greets as hello_greets, clocked, greeted, handled, live_plan, looked_at, parted, run_plan, settled, taken, timed, turn_plan}
use Rattle.qn_live.specs.Laws.{NeverFalls, is_by_call, is_by_clock, is_no_failure, is_sound, tick_after}

-- ## What the calls so far tell

-- the last tick, whether a tick fell, and the last call that read or wrote a sector
record Past : Type 0 where
  tick : ℕ
  fell : Bool
  disk : Option Call

-- before the first call
abbrev at_first : Past
at_first = record { tick = 0; fell = false; disk = None }

abbrev disk_after : Call → Option Call → Option Call
disk_after made last = if is_on_disk made then Some made else last

abbrev after_call : Call → Past → Past
after_call made past =
    record {
      tick = tick_after made past.tick;
      fell = past.fell || nat_lt (tick_after made past.tick) past.tick;
      disk = disk_after made past.disk;
    }

abbrev after_calls : List Call → Past → Past
after_calls [] past = past
after_calls (call ∷ calls) past = after_calls calls (after_call call past)

-- every call leads to a value of which P holds
abbrev Leads : {A : Type 0} → (Past → A → Type 0) → Past → Plan A → Type 0
Leads P past (Ends value) = P past value
Leads P past (Asks question left) = (call : Call) → blank call ≡ question → Leads P (after_call call past) (left call)

leads_then : {A B : Type 0} (P : Past → A → Type 0) (Q : Past → B → Type 0) (past : Past) (plan : Plan A) (next : A → Plan B)
    → Leads P past plan → ((after : Past) (value : A) → P after value → Leads Q after (next value)) → Leads Q past (plan >>= next)
leads_then P Q past (Ends value) next leads goes_on = goes_on past value leads
leads_then P Q past (Asks question left) next leads goes_on =
    λ call asked. leads_then P Q (after_call call past) (left call) next (leads call asked) goes_on

leads_end : {A : Type 0} (P : Past → A → Type 0) (past : Past) (plan : Plan A) (calls : List Call) (value : A)
    → Leads P past plan → Follows plan calls value → P (after_calls calls past) value
leads_end {A} P past (Ends end) calls value leads follows = rw follows.0 (subst (λ (v : A). P past v) (sym follows.1) leads)
leads_end P past (Asks question left) [] value leads follows = absurd follows
leads_end P past (Asks question left) (call ∷ calls) value leads follows =
    leads_end P (after_call call past) (left call) calls value (leads call follows.0) follows.1

-- a call that does not ask for the time tells no tick
abbrev is_now : Call → Bool
is_now (call.Now tick) = true
is_now (call.OpenImage path ok) = false
is_now (call.OpenNode images image watchdog resource port rank ok) = false
is_now (call.Receive got) = false
is_now (call.Read sector bytes ok) = false
is_now (call.Write sector bytes ok) = false
is_now (call.Feed ok) = false
is_now (call.Start ok) = false
is_now (call.Stop ok) = false
is_now (call.Send to bytes ok) = false
is_now (call.Disarm ok) = false
is_now (call.Halt code) = false

tells_none : (last : ℕ) (c : Call) → is_now (blank c) ≡ false → tick_after c last ≡ last
tells_none last (call.Now tick) is = cc
tells_none last (call.OpenImage path ok) is = refl
tells_none last (call.OpenNode images image watchdog resource port rank ok) is = refl
tells_none last (call.Receive got) is = refl
tells_none last (call.Read sector bytes ok) is = refl
tells_none last (call.Write sector bytes ok) is = refl
tells_none last (call.Feed ok) is = refl
tells_none last (call.Start ok) is = refl
tells_none last (call.Stop ok) is = refl
tells_none last (call.Send to bytes ok) is = refl
tells_none last (call.Disarm ok) is = refl
tells_none last (call.Halt code) is = refl

asked_none : (last : ℕ) (c question : Call) → blank c ≡ question → is_now question ≡ false → tick_after c last ≡ last
asked_none last c question asked is = tells_none last c (ap is_now asked ∙ is)

-- a call is on the disk where its question is
on_disk_blank : (c : Call) → is_on_disk c ≡ is_on_disk (blank c)
on_disk_blank (call.Now tick) = refl
on_disk_blank (call.OpenImage path ok) = refl
on_disk_blank (call.OpenNode images image watchdog resource port rank ok) = refl
on_disk_blank (call.Receive got) = refl
on_disk_blank (call.Read sector bytes ok) = refl
on_disk_blank (call.Write sector bytes ok) = refl
on_disk_blank (call.Feed ok) = refl
on_disk_blank (call.Start ok) = refl
on_disk_blank (call.Stop ok) = refl
on_disk_blank (call.Send to bytes ok) = refl
on_disk_blank (call.Disarm ok) = refl
on_disk_blank (call.Halt code) = refl

pub asked_place : (c question : Call) → blank c ≡ question → is_on_disk c ≡ is_on_disk question
asked_place c question asked = on_disk_blank c ∙ ap is_on_disk asked

disk_after_asked : (last : Option Call) (c question : Call) (on : Bool) → blank c ≡ question → is_on_disk question ≡ on
    → disk_after c last ≡ (if on then Some c else last)
disk_after_asked last c question on asked is = ap (λ (test : Bool). if test then Some c else last) (asked_place c question asked ∙ is)

-- ## Causes of a halt

-- the last call on the disk was made for an operation, and failed; its failure halts a boot for this cause
record FailedLast (s : Settings) (me : ℕ) (last : Option Call) (why : BootCause) : Type 0 where
  op : DiskOp
  number : ℕ
  made : Call
  is_last : last ≡ Some made
  asked : blank made ≡ disk_call s me number op
  fails : is_failed made ≡ true
  halts : boot_halt s (failed op) ≡ Some why

-- the cause is no failure of a call, or the last call on the disk gave it: the entry is that its operation failed
abbrev Caused : Settings → ℕ → Option Call → What → BootCause → Type 0
Caused s me last entry why = is_no_failure why ≡ false → (by : FailedLast s me last why) × (entry ≡ failed by.op)

abbrev CausedHalt : Settings → ℕ → Option Call → What → Option BootCause → Type 0
CausedHalt s me last entry None = Unit {0}
CausedHalt s me last entry (Some why) = Caused s me last entry why

-- the same of the cause for which an entry halts a boot
abbrev CausedBy : Settings → ℕ → Option Call → What → Type 0
CausedBy s me last entry = CausedHalt s me last entry (boot_halt s entry)

abbrev Waiting : Settings → ℕ → Option Call → Option What → Type 0
Waiting s me last None = Unit {0}
Waiting s me last (Some entry) = CausedBy s me last entry

caused_read : (s : Settings) (me : ℕ) (past : List Line) (last : Option Call) (entry : What) → CausedBy s me last entry
    → CausedBy s me last (read_as s me past entry)
caused_read s me past last entry caused = of_test (fits s me past entry)
  where
    of_test : (test : Bool) → CausedBy s me last (if test then entry else what.Tick)
    of_test true = caused
    of_test false = tt

-- ## Outputs

-- the outputs halt a boot and do nothing else, for a cause of which P holds, or they don't halt it
abbrev Halting : (BootCause → Type 0) → List Out → Type 0
Halting P outs = ((why : BootCause) × (outs ≡ out.Halt (halt.Boot why) ∷ []) × P why) ⊎ (calm_outs outs ≡ true)

halting_at : (s : Settings) (me : ℕ) (past : List Line) (tick : ℕ) (entry : What) (log : List Line) (last : Option Call) → CausedBy s me last entry
    → Halting (Caused s me last entry) (outs_at s me past tick entry log)
unfolding outs_at
halting_at s me past tick entry log last caused = of_phase (is_booting (phase s past)) (is_live (phase s past))
  where
    of_halt : (halted : Option BootCause) → CausedHalt s me last entry halted
        → Halting (Caused s me last entry) (boot_step_outs me (begins_clean log) (slot_number log) entry halted)
    of_halt None known = inr (calm_boot me (begins_clean log) (slot_number log) entry)
    of_halt (Some why) known = inl (why, refl, known)

    of_step : (step : Bool)
        → Halting (Caused s me last entry) (if step then boot_step_outs me (begins_clean log) (slot_number log) entry (boot_halt s entry) else [])
    of_step true = of_halt (boot_halt s entry) caused
    of_step false = inr refl

    of_phase : (booting live : Bool)
        → Halting (Caused s me last entry) (if booting then boot_outs s me (begins_clean log) (slot_number log) entry
        else (if live then live_outs s me log entry (mail_feeds tick past entry) (deadly_of (message_of entry)) else []))
    of_phase true live = of_step (is_boot_step entry)
    of_phase false true = inr (calm_live s me log entry (mail_feeds tick past entry) (deadly_of (message_of entry)))
    of_phase false false = inr refl

halting_newest : (s : Settings) (me : ℕ) (past : List Line) (tick : ℕ) (entry : What) (last : Option Call) → CausedBy s me last entry
    → Halting (Caused s me last (read_as s me past entry)) (newest_outs (with_entry s me past (record { tick = tick; what = entry })))
unfolding with_entry
halting_newest s me past tick entry last caused =
    halting_at s me past tick (read_as s me past entry) _ last (caused_read s me past last entry caused)

now_newest : (s : Settings) (me : ℕ) (past : List Line) (tick : ℕ) (entry : What) → now (with_entry s me past (record { tick = tick; what = entry })) ≡ tick
unfolding with_entry
now_newest s me past tick entry = refl

newest_read : (s : Settings) (me : ℕ) (past : List Line) (tick : ℕ) (entry : What)
    → IsNewest (read_as s me past entry) (with_entry s me past (record { tick = tick; what = entry }))
unfolding with_entry
newest_read s me past tick entry = refl

-- a boot was halted by the last call on the disk: the newest entry is that its operation failed
abbrev HaltsSo : Settings → ℕ → Past → List Line → BootCause → Type 0
HaltsSo s me past log why = is_no_failure why ≡ false → (by : FailedLast s me past.disk why) × IsNewest (failed by.op) log

-- an end after these calls: a boot was halted for a cause that they gave, and a clock went back only where a tick fell
abbrev EndsSo : Settings → ℕ → Past → List Line → LiveEnd → Type 0
EndsSo s me past log (end.Turns phase holds answer why) = Unit {0}
EndsSo s me past log (end.Left clean) = Unit {0}
EndsSo s me past log (end.ClockBack before now) = past.fell ≡ true
EndsSo s me past log (end.SelfReset message) = Unit {0}
EndsSo s me past log (end.BootHalted why) = HaltsSo s me past log why

abbrev EndedSo : Settings → ℕ → Past → List Line → Option LiveEnd → Type 0
EndedSo s me past log None = Unit {0}
EndedSo s me past log (Some end) = EndsSo s me past log end

calm_ends : (s : Settings) (me : ℕ) (past : Past) (log : List Line) (entry : What) (outs : List Out) → calm_outs outs ≡ true
    → EndedSo s me past log (end_in entry outs)
calm_ends s me past log entry [] calm = tt
calm_ends s me past log entry (out.Halt (halt.Deadly message) ∷ outs) calm = tt
calm_ends s me past log entry (out.Halt (halt.Boot why) ∷ outs) calm = absurd cc
calm_ends s me past log entry (out.Disarm ∷ outs) calm = tt
calm_ends s me past log entry (out.Stop ∷ outs) calm = calm_ends s me past log entry outs calm
calm_ends s me past log entry (out.Start ∷ outs) calm = calm_ends s me past log entry outs calm
calm_ends s me past log entry (out.Feed ∷ outs) calm = calm_ends s me past log entry outs calm
calm_ends s me past log entry (out.Send to packet ∷ outs) calm = calm_ends s me past log entry outs calm
calm_ends s me past log entry (out.Disk op ∷ outs) calm = calm_ends s me past log entry outs calm

-- ## Answers of the disk

module _ (s : Settings) (me : ℕ) (last : Option Call) (entry : What) where
  caused_header : (found : Option (ℕ × Timing))
      → CausedHalt s me last entry (header_halt s (option_map_or (λ f. header.Read f.0 f.1) found header.NotImage))
  caused_header None = λ failure. absurd cc
  caused_header (Some f) = of_tests (f.0 == length s.nodes) (is_safe f.1)
    where
      of_tests : (same safe : Bool)
          → CausedHalt s me last entry (if not same then Some cause.NotImage else (if safe then None else Some cause.UnsafeTiming))
      of_tests true true = tt
      of_tests true false = λ failure. absurd cc
      of_tests false safe = λ failure. absurd cc

  caused_own : (own : Slot) → CausedHalt s me last entry (slot_halt (slot.Read own))
  caused_own own = of_test (nat_lt own.incarnation (2 ^ 64 - 1))
    where
      of_test : (below : Bool) → CausedHalt s me last entry (if below then None else Some cause.IncarnationSpent)
      of_test true = tt
      of_test false = λ failure. absurd cc

  caused_slot : (rank : ℕ) (found : Option (NodeId × Slot))
      → CausedHalt s me last entry (slot_halt (option_map_or (λ f. if f.0.0 == (id_of s rank).0 then slot.Read f.1 else slot.Damaged) found slot.Damaged))
  caused_slot rank None = λ failure. absurd cc
  caused_slot rank (Some f) = of_test (f.0.0 == (id_of s rank).0)
    where
      of_test : (own : Bool) → CausedHalt s me last entry (slot_halt (if own then slot.Read f.1 else slot.Damaged))
      of_test true = caused_own f.1
      of_test false = λ failure. absurd cc

  caused_mail : (found : Option Mail) → CausedHalt s me last entry (check_halt (option_map_or (λ f. mail.Read f.message) found mail.Damaged))
  caused_mail None = λ failure. absurd cc
  caused_mail (Some f) = of_test (starts_clean_on f.message)
    where
      of_test : (clean : Bool) → CausedHalt s me last entry (if clean then None else Some cause.NotClean)
      of_test true = tt
      of_test false = λ failure. absurd cc

caused_done : (s : Settings) (me : ℕ) (last : Option Call) (op : DiskOp) (bytes : List ℕ) → CausedBy s me last (done s op bytes)
unfolding done
caused_done s me last disk.ReadHeader bytes = caused_header s me last (done s disk.ReadHeader bytes) (header_of bytes)
caused_done s me last (disk.ReadSlot rank) bytes = caused_slot s me last (done s (disk.ReadSlot rank) bytes) rank.0 (slot_of bytes)
caused_done s me last disk.CheckMail bytes = caused_mail s me last (done s disk.CheckMail bytes) (mail_of bytes)
caused_done s me last disk.ReadMail bytes = tt
caused_done s me last (disk.WriteClaim next) bytes = tt
caused_done s me last (disk.WriteClose own) bytes = tt
caused_done s me last disk.WriteClear bytes = tt
caused_done s me last (disk.WriteReset rank) bytes = tt

module _ (s : Settings) (me : ℕ) where
  caused_answer : (number : ℕ) (op : DiskOp) (c : Call) → blank c ≡ disk_call s me number op → CausedBy s me (Some c) (disk_answer s op c)
  caused_answer number op c asked = of_call (is_failed c) refl
    where
      of_halt : (halted : Option BootCause) → boot_halt s (failed op) ≡ halted → is_failed c ≡ true → CausedHalt s me (Some c) (failed op) halted
      of_halt None is fails = tt
      of_halt (Some why) is fails =
          λ failure. (record { op = op; number = number; made = c; is_last = refl; asked = asked; fails = fails; halts = is }, refl)

      of_call : (failing : Bool) → is_failed c ≡ failing → CausedBy s me (Some c) (if failing then failed op else done s op (bytes_read c))
      of_call true fails = of_halt (boot_halt s (failed op)) refl fails
      of_call false whole = caused_done s me (Some c) op (bytes_read c)

  disk_on_disk : (number : ℕ) (op : DiskOp) → is_on_disk (disk_call s me number op) ≡ true
  unfolding disk_call
  disk_on_disk number disk.ReadHeader = refl
  disk_on_disk number (disk.ReadSlot rank) = refl
  disk_on_disk number disk.CheckMail = refl
  disk_on_disk number disk.ReadMail = refl
  disk_on_disk number (disk.WriteClaim next) = refl
  disk_on_disk number (disk.WriteClose own) = refl
  disk_on_disk number disk.WriteClear = refl
  disk_on_disk number (disk.WriteReset rank) = refl

  -- what waits after a call of an output is what waited, or the answer of that call
  waiting_after : (number : ℕ) (o : Out) (c : Call) (waits : Waits) (last : Option Call) → blank c ≡ out_call s me number o
      → Waiting s me last waits.disk → Waiting s me (disk_after c last) (waits_after s o c waits).disk
  unfolding out_call waits_after
  waiting_after number o c waits last asked waiting = of_output o asked
    where
      kept : (question : Call) → is_on_disk question ≡ false → blank c ≡ question → Waiting s me (disk_after c last) waits.disk
      kept question off is = subst (λ (l : Option Call). Waiting s me l waits.disk) (sym (disk_after_asked last c question false is off)) waiting

      of_output : (o : Out) → blank c ≡ out_call s me number o → Waiting s me (disk_after c last) (waits_after s o c waits).disk
      of_output (out.Disk op) is =
          subst (λ (l : Option Call). CausedBy s me l (disk_answer s op c))
          (sym (disk_after_asked last c (disk_call s me number op) true is (disk_on_disk number op))) (caused_answer number op c is)
      of_output out.Stop is = kept (call.Stop true) refl is
      of_output out.Start is = kept (call.Start true) refl is
      of_output out.Feed is = kept (call.Feed true) refl is
      of_output (out.Send to packet) is = kept (call.Send to (packet_bytes packet) true) refl is
      of_output out.Disarm is = kept (call.Disarm true) refl is
      of_output (out.Halt kind) is = kept (call.Halt (halt_code kind)) refl is

  -- ## One turn

  disk_asks_none : (number : ℕ) (op : DiskOp) → is_now (disk_call s me number op) ≡ false
  unfolding disk_call
  disk_asks_none number disk.ReadHeader = refl
  disk_asks_none number (disk.ReadSlot rank) = refl
  disk_asks_none number disk.CheckMail = refl
  disk_asks_none number disk.ReadMail = refl
  disk_asks_none number (disk.WriteClaim next) = refl
  disk_asks_none number (disk.WriteClose own) = refl
  disk_asks_none number disk.WriteClear = refl
  disk_asks_none number (disk.WriteReset rank) = refl

  out_asks_none : (number : ℕ) (o : Out) → is_now (out_call s me number o) ≡ false
  unfolding out_call
  out_asks_none number out.Stop = refl
  out_asks_none number out.Start = refl
  out_asks_none number out.Feed = refl
  out_asks_none number (out.Send to packet) = refl
  out_asks_none number (out.Disk op) = disk_asks_none number op
  out_asks_none number out.Disarm = refl
  out_asks_none number (out.Halt kind) = refl

  -- the outputs were performed: nothing came to the log, the tick is the same, and what waits is known
  abbrev Performed : ℕ → List Line → Past → RunState → Type 0
  Performed tick log past st = (past.tick ≡ tick) × (st.log ≡ log) × Waiting s me past.disk st.waits.disk

  leads_outs : (tick : ℕ) (log : List Line) (st : RunState) (outs : List Out) (past : Past) → past.tick ≡ tick → st.log ≡ log
      → Waiting s me past.disk st.waits.disk → Leads (Performed tick log) past (outs_plan s me st outs)
  unfolding outs_plan
  leads_outs tick log st [] past is same waiting = (is, same, waiting)
  leads_outs tick log st (o ∷ outs) past is same waiting =
      λ c asked.
      leads_outs tick log (noted s o c st) outs (after_call c past)
      (asked_none past.tick c (out_call s me (own_number st.log) o) asked (out_asks_none (own_number st.log) o) ∙ is) same
      (waiting_after (own_number st.log) o c st.waits past.disk asked waiting)

  -- neither the clock was looked at nor a sector read or written
  abbrev Silent : Past → Past → Unit {0} → Type 0
  Silent before past sent = (past.tick ≡ before.tick) × (past.disk ≡ before.disk)

  leads_sends : (before : Past) (sent : List Sent) (past : Past) → past.tick ≡ before.tick → past.disk ≡ before.disk
      → Leads (Silent before) past (sends_plan sent)
  unfolding sends_plan
  leads_sends before [] past is same = (is, same)
  leads_sends before (one ∷ more) past is same =
      λ c asked.
      leads_sends before more (after_call c past)
      (asked_none past.tick c (call.Send one.to (packet_bytes one.packet) true) asked refl ∙ is)
      (disk_after_asked past.disk c (call.Send one.to (packet_bytes one.packet) true) false asked refl ∙ same)

  -- a turn ended the run for a known cause, or another one can follow
  abbrev Turns : Past → Turned → Type 0
  Turns past (Over end log) = EndsSo s me past log end
  Turns past (Next st) = (now st.log ≡ past.tick) × Waiting s me past.disk st.waits.disk

  leads_poll : (past : Past) (poll : Option Poll) → Leads (Silent past) past (poll_plan poll)
  leads_poll past None = (refl, refl)
  leads_poll past (Some poll) =
      λ c asked. (asked_none past.tick c (poll_call poll) asked refl, disk_after_asked past.disk c (poll_call poll) false asked refl)

  leads_greeted : (entry : What) (st : RunState) (past : Past) → now st.log ≡ past.tick → Waiting s me past.disk st.waits.disk → Leads Turns past (greeted s me entry st)
  unfolding greeted
  leads_greeted entry st past is waiting =
      let asked = asked_maker s me st in
      let sents = hellos_where (hello_greets s me st) s me asked.maker in
      let poll = poll_due s me (hello_greets s me st) entry asked in
      let next = polled s me (hello_greets s me st) entry asked in
      leads_then (Silent past) Turns past (poll_plan poll) (λ told. sends_plan sents >>= (λ sent. Ends (Next next))) (leads_poll past poll)
      (λ told one quiet. leads_then (Silent past) Turns told (sends_plan sents) (λ sent. Ends (Next next)) (leads_sends past sents told quiet.0 quiet.1)
      (λ after sent silent. (is ∙ sym silent.0, subst (λ (l : Option Call). Waiting s me l st.waits.disk) (sym silent.1) waiting)))

  -- nothing is asked of an end that a node left
  leads_farewell : (st : RunState) (past : Past) → Leads Turns past (parted s me (end.Left true) st)
  unfolding parted
  leads_farewell st past =
      let sents = option_map_or (λ view. farewells s me view 0) (farewell_after (end.Left true) st.maker) [] in
      leads_then (Silent past) Turns past (sends_plan sents) (λ sent. Ends (Over (end.Left true) st.log)) (leads_sends past sents past refl refl)
      (λ after sent silent. tt)

  -- a farewell changes nothing of what the end rests on
  leads_parted : (end : LiveEnd) (st : RunState) (past : Past) → EndsSo s me past st.log end → Leads Turns past (parted s me end st)
  unfolding parted sends_plan
  leads_parted (end.Left true) st past known = leads_farewell st past
  leads_parted (end.Left false) st past known = tt
  leads_parted (end.Turns phase holds answer why) st past known = tt
  leads_parted (end.ClockBack before now) st past known = known
  leads_parted (end.SelfReset message) st past known = tt
  leads_parted (end.BootHalted why) st past known = known

  leads_settled : (entry : What) (outs : List Out) (st : RunState) (past : Past) → calm_outs outs ≡ true → now st.log ≡ past.tick
      → Waiting s me past.disk st.waits.disk → Leads Turns past (settled s me entry outs st)
  unfolding settled
  leads_settled entry outs st past calm is waiting = of_end (end_in entry outs) (calm_ends s me past st.log entry outs calm)
    where
      of_end : (end : Option LiveEnd) → EndedSo s me past st.log end → Leads Turns past (option_map_or (λ e. parted s me e st) end (greeted s me entry st))
      of_end None known = leads_greeted entry st past is waiting
      of_end (Some e) known = leads_parted e st past known

  leads_halted : (entry read : What) (st : RunState) (past : Past) (why : BootCause) → Caused s me past.disk read why → IsNewest read st.log
      → Leads Turns past (outs_plan s me st (out.Halt (halt.Boot why) ∷ []) >>= settled s me entry (out.Halt (halt.Boot why) ∷ []))
  unfolding outs_plan out_call settled parted sends_plan
  leads_halted entry read st past why caused newest =
      λ c asked failure.
      let same = disk_after_asked past.disk c (call.Halt (halt_code (halt.Boot why))) false asked refl in
      let found = caused failure in (
        subst (λ (l : Option Call). FailedLast s me l why) (sym same) found.0,
        subst (λ (w : What). IsNewest w st.log) (found.1) newest,
      )

  leads_performed : (entry read : What) (st : RunState) (outs : List Out) (past : Past) → Halting (Caused s me past.disk read) outs
      → IsNewest read st.log → now st.log ≡ past.tick → Waiting s me past.disk st.waits.disk → Leads Turns past (outs_plan s me st outs >>= settled s me entry outs)
  leads_performed entry read st outs past (inl alone) newest is waiting =
      subst (λ (o : List Out). Leads Turns past (outs_plan s me st o >>= settled s me entry o)) (sym alone.1)
      (leads_halted entry read st past alone.0 alone.2 newest)
  leads_performed entry read st outs past (inr calm) newest is waiting =
      leads_then (Performed past.tick st.log) Turns past (outs_plan s me st outs) (settled s me entry outs)
      (leads_outs past.tick st.log st outs past refl refl waiting)
      (λ after left kept. leads_settled entry outs left after calm (ap now kept.1 ∙ is ∙ sym kept.0) kept.2)

  leads_handled : (st : RunState) (past : Past) (found : Option NamingMaker × What) → CausedBy s me past.disk found.1
      → Waiting s me past.disk st.waits.disk → Leads Turns past (handled s me st past.tick found)
  unfolding handled
  leads_handled st past found caused waiting =
      let after = taken s me st past.tick found in
      leads_performed found.1 (read_as s me st.log found.1) after (newest_outs after.log) past
      (halting_newest s me st.log past.tick found.1 past.disk caused) (newest_read s me st.log past.tick found.1) (now_newest s me st.log past.tick found.1) waiting

  abbrev CausedChoice : Option Call → Choice → Type 0
  CausedChoice last (choice.Whole entry) = CausedBy s me last entry
  CausedChoice last (choice.Open packet) = Unit {0}
  CausedChoice last (choice.Answer reply) = Unit {0}

  caused_look : (last : Option Call) (seen : Option View) → CausedBy s me last (view_or_tick seen)
  caused_look last None = tt
  caused_look last (Some own) = tt

  caused_looked : (last : Option Call) (tick : ℕ) (own : Own) (chosen : Choice) (maker : Option NamingMaker) → CausedChoice last chosen
      → CausedBy s me last (looked tick own chosen maker).1
  caused_looked last tick own (choice.Whole entry) maker caused = caused
  caused_looked last tick own (choice.Open p) None caused = tt
  caused_looked last tick own (choice.Answer reply) maker caused = tt
  caused_looked last tick own (choice.Open p) (Some m) caused = caused_look last (answer_at tick (told tick own p m))

  -- an answer of the device comes of no call on the disk
  caused_by_device : (last : Option Call) (answer : Option Bool) → CausedChoice last (option_map_or (λ agrees. choice.Whole (what.Device agrees)) answer (choice.Open None))
  caused_by_device last None = tt
  caused_by_device last (Some agrees) = tt

  caused_answered : (last : Option Call) (tick : ℕ) (poller : Option Poller) (chosen : Choice) → CausedChoice last chosen → CausedChoice last (answered_at tick poller chosen)
  caused_answered last tick poller (choice.Whole entry) caused = caused
  caused_answered last tick poller (choice.Open p) caused = tt
  caused_answered last tick poller (choice.Answer reply) caused = caused_by_device last (option_and_then (answer_taken tick reply) poller)

  leads_clocked : (chosen : Choice × RunState) (past : Past) → (nat_lt past.tick (now chosen.1.log) ≡ true → past.fell ≡ true)
      → CausedChoice past.disk chosen.0 → Waiting s me past.disk chosen.1.waits.disk → Leads Turns past (clocked s me chosen past.tick)
  unfolding clocked
  leads_clocked chosen past falls caused waiting = of_test (nat_lt past.tick (now chosen.1.log)) falls
    where
      of_test : (back : Bool) → (back ≡ true → past.fell ≡ true)
          → Leads Turns past (if back then Ends (Over (end.ClockBack (now chosen.1.log) past.tick) chosen.1.log)
          else handled s me (looking past.tick (answered past.tick chosen)) past.tick (looked_at past.tick (answered past.tick chosen)))
      of_test true fell = fell refl
      of_test false fell =
          leads_handled (looking past.tick (answered past.tick chosen)) past (looked_at past.tick (answered past.tick chosen)) (caused_looked past.disk past.tick (own_of (looking past.tick (answered past.tick chosen))) (answered past.tick chosen).0 chosen.1.maker (caused_answered past.disk past.tick chosen.1.poller chosen.0 caused)) waiting

  leads_timed : (chosen : Choice × RunState) (past : Past) → now chosen.1.log ≡ past.tick → CausedChoice past.disk chosen.0
      → Waiting s me past.disk chosen.1.waits.disk → Leads Turns past (timed s me chosen)
  leads_timed chosen past is caused waiting = λ c asked. of_call c asked
    where
      of_call : (c : Call) → blank c ≡ call.Now 0 → Leads Turns (after_call c past) (clocked s me chosen (time_of c))
      of_call (call.Now tick) asked =
          leads_clocked chosen (after_call (call.Now tick) past)
          (λ back. or_right past.fell (nat_lt tick past.tick) (subst (λ (first : ℕ). nat_lt tick first ≡ true) is back)) caused waiting
      of_call (call.OpenImage path ok) asked = absurd cc
      of_call (call.OpenNode images image watchdog resource port rank ok) asked = absurd cc
      of_call (call.Receive got) asked = absurd cc
      of_call (call.Read sector bytes ok) asked = absurd cc
      of_call (call.Write sector bytes ok) asked = absurd cc
      of_call (call.Feed ok) asked = absurd cc
      of_call (call.Start ok) asked = absurd cc
      of_call (call.Stop ok) asked = absurd cc
      of_call (call.Send to bytes ok) asked = absurd cc
      of_call (call.Disarm ok) asked = absurd cc
      of_call (call.Halt code) asked = absurd cc

  -- what a turn takes
  abbrev Chosen : Past → Choice × RunState → Type 0
  Chosen past chosen = (now chosen.1.log ≡ past.tick) × CausedChoice past.disk chosen.0 × Waiting s me past.disk chosen.1.waits.disk

  caused_ready : (last : Option Call) (leaves rests : Bool) (stopped : Option Bool) (disk : Option What) → Waiting s me last disk
      → IfSome (ready leaves rests (record { stopped = stopped; disk = disk })) (λ found. CausedBy s me last found.0 × Waiting s me last found.1.disk)
  caused_ready last leaves rests (Some ok) disk waiting = (tt, waiting)
  caused_ready last true false None None waiting = (tt, tt)
  caused_ready last false false None None waiting = tt
  caused_ready last leaves false None (Some entry) waiting = (waiting, tt)
  caused_ready last true true None disk waiting = (tt, waiting)
  caused_ready last false true None disk waiting = tt

  caused_packet : (last : Option Call) (p : Packet) → CausedBy s me last (entry_of p)
  caused_packet last (packet.Ask ask) = tt
  caused_packet last (packet.Tell tell) = tt
  caused_packet last (packet.Hello from) = tt
  caused_packet last (packet.Heard from said standing) = tt
  caused_packet last (packet.Announce from view) = tt
  caused_packet last (packet.Vote agrees) = tt

  caused_choice : (last : Option Call) (p : Option Packet) → CausedChoice last (choice_of me p)
  caused_choice last None = tt
  caused_choice last (Some p) = of_test (is_entry_for me p)
    where
      of_test : (own : Bool) → CausedChoice last (if own then choice.Whole (entry_of p) else choice.Open (Some p))
      of_test true = caused_packet last p
      of_test false = tt

  caused_beside : (last : Option Call) (reply : Option Reply) (before : Choice) → CausedChoice last before → CausedChoice last (choice_beside me reply before)
  caused_beside last (Some reply) before caused = of_test (is_reply_for me reply)
    where
      of_test : (own : Bool) → CausedChoice last (if own then choice.Answer reply else choice.Open None)
      of_test true = tt
      of_test false = tt
  caused_beside last None (choice.Whole entry) caused = of_test (is_device entry)
    where
      of_test : (device : Bool) → CausedChoice last (if device then choice.Open None else choice.Whole entry)
      of_test true = tt
      of_test false = caused
  caused_beside last None (choice.Open p) caused = tt
  caused_beside last None (choice.Answer reply) caused = tt

  caused_in : (last : Option Call) (poller : Option Poller) (got : Received) → CausedChoice last (choice_in me poller got)
  caused_in last None got = caused_choice last (packet_in got)
  caused_in last (Some poller) got = caused_beside last (reply_in got) (choice_of me (packet_in got)) (caused_choice last (packet_in got))

  leads_choice : (leaves : Bool) (st : RunState) (past : Past) → now st.log ≡ past.tick → Waiting s me past.disk st.waits.disk
      → Leads Chosen past (choice_plan me leaves st)
  unfolding choice_plan
  leads_choice leaves st past is waiting =
      of_ready (ready leaves st.rests st.waits) (caused_ready past.disk leaves st.rests st.waits.stopped st.waits.disk waiting)
    where
      of_late : (late : Bool) → Leads Chosen past (open_plan me st late)
      of_late true = (is, tt, waiting)
      of_late false =
          λ c asked. (
            is ∙ sym (asked_none past.tick c (call.Receive received.Nothing) asked refl),
            caused_in (disk_after c past.disk) st.poller (received_in c),
            subst (λ (l : Option Call). Waiting s me l st.waits.disk)
                (sym (disk_after_asked past.disk c (call.Receive received.Nothing) false asked refl)) waiting,
          )

      of_ready : (found : Option (What × Waits)) → IfSome found (λ f. CausedBy s me past.disk f.0 × Waiting s me past.disk f.1.disk)
          → Leads Chosen past (option_map_or (λ f. Ends (choice.Whole f.0, record st { waits = f.1 })) found
          (open_plan me st (is_late st)))
      of_ready (Some f) known = (is, known.0, known.1)
      of_ready None none = of_late (is_late st)

  leads_turn : (leave : Option ℕ) (turn : ℕ) (st : RunState) (past : Past) → now st.log ≡ past.tick
      → Waiting s me past.disk st.waits.disk → Leads Turns past (turn_plan s me leave turn st)
  leads_turn leave turn st past is waiting =
      leads_then Chosen Turns past (choice_plan me (is_to_leave s leave turn st) st) (timed s me) (leads_choice (is_to_leave s leave turn st) st past is waiting)
      (λ after chosen known. leads_timed chosen after known.0 known.1 known.2)

  -- ## The whole run

  abbrev Ended : Past → Ran → Type 0
  Ended past ran = EndsSo s me past ran.log ran.end

  leads_later : (next : RunState → Plan Ran)
      → ((st : RunState) (past : Past) → now st.log ≡ past.tick → Waiting s me past.disk st.waits.disk → Leads Ended past (next st))
      → (past : Past) (turned : Turned) → Turns past turned → Leads Ended past (later next turned)
  leads_later next goes_on past (Over end log) known = known
  leads_later next goes_on past (Next st) known = goes_on st past known.0 known.1

  leads_run : (leave : Option ℕ) (more turn : ℕ) (st : RunState) (past : Past) → now st.log ≡ past.tick
      → Waiting s me past.disk st.waits.disk → Leads Ended past (run_plan s me leave turn more st)
  unfolding run_plan
  leads_run leave zero turn st past is waiting = tt
  leads_run leave (suc more) turn st past is waiting =
      leads_then Turns Ended past (turn_plan s me leave turn st) (later (run_plan s me leave (turn + 1) more)) (leads_turn leave turn st past is waiting)
      (leads_later (run_plan s me leave (turn + 1) more) (leads_run leave more (turn + 1)))

  caused_begin : (clean : Bool) → CausedBy s me None (begin_of clean)
  caused_begin true = tt
  caused_begin false = tt

  leads_live : (clean : Bool) (leave polls : Option ℕ) (turns : ℕ) → Leads Ended at_first (live_plan s me clean leave polls turns)
  unfolding live_plan
  leads_live clean leave polls turns =
      leads_then Turns Ended at_first (timed s me (choice.Whole (begin_of clean), first_state polls)) (later (run_plan s me leave 2 (turns - 1)))
      (leads_timed (choice.Whole (begin_of clean), first_state polls) at_first refl (caused_begin clean) tt)
      (leads_later (run_plan s me leave 2 (turns - 1)) (leads_run leave (turns - 1) 2))

-- ## The laws

-- calls of which one is the last on the disk
record Parted (made : Call) (calls : List Call) : Type 0 where
  before : List Call
  after : List Call
  parts : calls ≡ before ++ made ∷ after
  last : list_any is_on_disk after ≡ false

parted_at_last : (past : Past) (calls : List Call) (made : Call) → (after_calls calls past).disk ≡ Some made
    → ((past.disk ≡ Some made) × (list_any is_on_disk calls ≡ false)) ⊎ Parted made calls
parted_at_last past [] made is = inl (is, refl)
parted_at_last past (first ∷ calls) made is = of_rest (parted_at_last (after_call first past) calls made is)
  where
    of_place : (on : Bool) → is_on_disk first ≡ on → (if on then Some first else past.disk) ≡ Some made → list_any is_on_disk calls ≡ false
        → ((past.disk ≡ Some made) × (list_any is_on_disk (first ∷ calls) ≡ false)) ⊎ Parted made (first ∷ calls)
    of_place true on same none =
        let is_made : first ≡ made = cc in
        inr (record { before = []; after = calls; parts = ap (λ (c : Call). c ∷ calls) is_made; last = none })
    of_place false off same none = inl (same, or_from (is_on_disk first) (list_any is_on_disk calls) off none)

    of_rest : (((after_call first past).disk ≡ Some made) × (list_any is_on_disk calls ≡ false)) ⊎ Parted made calls
        → ((past.disk ≡ Some made) × (list_any is_on_disk (first ∷ calls) ≡ false)) ⊎ Parted made (first ∷ calls)
    of_rest (inl none) = of_place (is_on_disk first) refl none.0 none.1
    of_rest (inr p) = inr (record { before = first ∷ p.before; after = p.after; parts = ap (λ (cs : List Call). first ∷ cs) p.parts; last = p.last })

-- a run whose boot a failed operation halted has a call that failed
pub halted_failed : (plan_of : Call → Plan Call) (s : Settings) (me : ℕ) (why : BootCause) (calls : List Call) → HaltedBy plan_of s me why calls
    → some_failed calls ≡ true
halted_failed plan_of s me why calls halted =
    ap some_failed halted.fails.parts
    ∙ some_failed-append halted.fails.before (halted.fails.own ++ halted.fails.after)
    ∙ or_right (some_failed halted.fails.before) (some_failed (halted.fails.own ++ halted.fails.after))
    (some_failed-append halted.fails.own halted.fails.after ∙ ap (λ (some : Bool). some || some_failed halted.fails.after) halted.fails.failed)

never_fell : (past : Past) (calls : List Call) → past.fell ≡ false → NeverFalls past.tick calls → (after_calls calls past).fell ≡ false
never_fell past [] none rises = none
never_fell past (call ∷ calls) none rises =
    never_fell (after_call call past) calls
    (or_from past.fell (nat_lt (tick_after call past.tick) past.tick) none (le-ltb (tick_after call past.tick) past.tick rises.0)) rises.1

module _ (s : Settings) (me : ℕ) (clean : Bool) (leave polls : Option ℕ) (turns : ℕ) (calls : List Call) (ran : Ran)
    (follows : Follows (live_plan s me clean leave polls turns) calls ran) where
  ended : EndsSo s me (after_calls calls at_first) ran.log ran.end
  ended = leads_end (Ended s me) at_first (live_plan s me clean leave polls turns) calls ran (leads_live s me clean leave polls turns) follows

  -- a boot that a failed call halted was halted by the last operation on the disk: that it failed is the newest entry
  pub halted_by : (why : BootCause) → ran.end ≡ end.BootHalted why → is_no_failure why ≡ false
      → (halted : HaltedBy one_call s me why calls) × IsNewest (failed halted.op) ran.log
  halted_by why is failure =
      let known : HaltsSo s me (after_calls calls at_first) ran.log why =
      subst (λ (e : LiveEnd). EndsSo s me (after_calls calls at_first) ran.log e) is ended in
      of_last (known failure).0 (known failure).1
    where
      of_parts : (last : FailedLast s me (after_calls calls at_first).disk why) → IsNewest (failed last.op) ran.log
          → ((at_first.disk ≡ Some last.made) × (list_any is_on_disk calls ≡ false)) ⊎ Parted last.made calls
          → (halted : HaltedBy one_call s me why calls) × IsNewest (failed halted.op) ran.log
      of_parts last newest (inl none) = absurd cc
      of_parts last newest (inr p) = (
        record {
          op = last.op;
          number = last.number;
          halts = last.halts;
          fails = record {
            before = p.before;
            own = last.made ∷ [];
            after = p.after;
            parts = p.parts;
            told = last.made;
            made = (last.asked, (refl, refl));
            failed = rw last.fails refl;
            told_failed = last.fails;
            last = p.last;
          };
        },
        newest,
      )

      of_last : (last : FailedLast s me (after_calls calls at_first).disk why) → IsNewest (failed last.op) ran.log
          → (halted : HaltedBy one_call s me why calls) × IsNewest (failed halted.op) ran.log
      of_last last newest = of_parts last newest (parted_at_last at_first calls last.made last.is_last)

  -- no call failed, so none halted the boot
  pub no_end_by_call : some_failed calls ≡ false → is_by_call ran.end ≡ false
  no_end_by_call whole = of_end ran.end refl
    where
      of_cause : (why : BootCause) (test : Bool) → ran.end ≡ end.BootHalted why → is_no_failure why ≡ test → not test ≡ false
      of_cause why true is sound = refl
      of_cause why false is failure =
          let some : some_failed calls ≡ true = halted_failed one_call s me why calls (halted_by why is failure).0 in
          absurd cc

      of_end : (e : LiveEnd) → ran.end ≡ e → is_by_call e ≡ false
      of_end (end.Turns phase holds answer why) is = refl
      of_end (end.Left clean) is = refl
      of_end (end.ClockBack before now) is = refl
      of_end (end.SelfReset message) is = refl
      of_end (end.BootHalted why) is = of_cause why (is_no_failure why) is refl

  -- no call told an earlier tick than the one before it, so the clock did not go back
  pub no_end_by_clock : NeverFalls 0 calls → is_by_clock ran.end ≡ false
  no_end_by_clock rises = of_end ran.end ended
    where
      of_end : (e : LiveEnd) → EndsSo s me (after_calls calls at_first) ran.log e → is_by_clock e ≡ false
      of_end (end.Turns phase holds answer why) known = refl
      of_end (end.Left clean) known = refl
      of_end (end.ClockBack before now) fell = sym fell ∙ never_fell at_first calls refl rises
      of_end (end.SelfReset message) known = refl
      of_end (end.BootHalted why) known = refl

-- an end that neither a failed call nor the clock made is a sound one
pub sound_end : (end : LiveEnd) → is_by_call end ≡ false → is_by_clock end ≡ false → is_sound end ≡ true
sound_end (end.Turns phase holds answer why) no_call no_clock = refl
sound_end (end.Left clean) no_call no_clock = refl
sound_end (end.ClockBack before now) no_call no_clock = cc
sound_end (end.SelfReset message) no_call no_clock = refl
sound_end (end.BootHalted why) no_call no_clock = of_test (is_no_failure why) no_call
  where
    of_test : (test : Bool) → not test ≡ false → test ≡ true
    of_test true is = refl
    of_test false is = cc

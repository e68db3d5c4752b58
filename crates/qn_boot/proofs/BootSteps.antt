-- One entry more in the log of a node that boots.
use Rattle.std.proofs.Common.{◌≡◌, ℕ, ◌+◌, Bool, true, false, List, [], ◌++◌, Option, None, Some, length, refl, ap, sym, ◌∙◌, eq-eqb}
use Rattle.std.specs.Prelude.{not, unwrap_or}
use Rattle.std.specs.Option.{option_or}
use Rattle.qn_base.specs.declared.ids.Rank.{Rank}
use Rattle.qn_model.specs.declared.configuration.Settings.{Settings}
use Rattle.qn_model.specs.declared.seen.HeaderSeen.{HeaderSeen}
use Rattle.qn_model.specs.declared.seen.HeaderSeen.TheVariants as header
use Rattle.qn_model.specs.declared.seen.SlotSeen.{SlotSeen}
use Rattle.qn_model.specs.declared.seen.SlotSeen.TheVariants as slot
use Rattle.qn_model.specs.declared.seen.MailSeen.{MailSeen}
use Rattle.qn_model.specs.declared.entries.What.{What}
use Rattle.qn_model.specs.declared.entries.What.TheVariants as what
use Rattle.qn_model.specs.declared.life.Phase.TheVariants.{Booting}
use Rattle.qn_model.specs.declared.outputs.DiskOp.{DiskOp}
use Rattle.qn_model.specs.declared.outputs.DiskOp.TheVariants as disk
use Rattle.qn_model.specs.declared.outputs.Out.TheVariants as out
use Rattle.qn_model.specs.declared.times.Timing.{Timing}
use Rattle.qn_model.specs.Timing.{is_safe}
use Rattle.qn_model.specs.Log.{Line, begins_clean, claim_of, claimed, disk_of, has_start, has_stop, number_read, op_out, slot_number, timing, view_of}
use Rattle.qn_model.specs.Moments.{begin_of}
use Rattle.qn_model.specs.Phases.{boot_halt, in_time, next_phase, phase}
use Rattle.qn_model.specs.Holding.{holds, stop_due}
use Rattle.qn_model.specs.NodeVotes.{view}
use Rattle.qn_model.specs.NodeOutputs.{boot_outs, disk_outs, is_begin, is_boot_step, outs_at, taken_in, when, with_read}
use Rattle.qn_model.specs.Wanted.{asks_mail, boot_op, claim_after, mail_tick, rank_of}
use Rattle.qn_boot.specs.declared.steps.WantHeader.{WantHeader}
use Rattle.qn_boot.specs.declared.steps.WantSlot.{WantSlot}
use Rattle.qn_boot.specs.declared.steps.WantCheck.{WantCheck}
use Rattle.qn_boot.specs.declared.steps.WantClaim.{WantClaim}
use Rattle.qn_boot.specs.declared.steps.WantClear.{WantClear}
use Rattle.qn_boot.specs.declared.steps.AfterSlot.{AfterSlot}
use Rattle.qn_boot.specs.declared.steps.AfterSlot.TheVariants.{Check, Claim}
use Rattle.qn_boot.specs.declared.steps.Ready.{Ready}
use Rattle.qn_boot.specs.Boot.{AfterSlotFor, BootFor, ReadyFor, WantCheckFor, WantClaimFor, WantClearFor, WantHeaderFor, WantSlotFor, claims_after, is_check, times_after}

disk_of-step : (feed : Bool) (op : Option DiskOp) → disk_of (when feed out.Feed ++ disk_outs op) ≡ op
disk_of-step true (Some op) = refl
disk_of-step true None = refl
disk_of-step false (Some op) = refl
disk_of-step false None = refl

starts-step : (feed : Bool) (op : Option DiskOp) → has_start (when feed out.Feed ++ disk_outs op) ≡ false
starts-step true (Some op) = refl
starts-step true None = refl
starts-step false (Some op) = refl
starts-step false None = refl

stops-step : (feed : Bool) (op : Option DiskOp) → has_stop (when feed out.Feed ++ disk_outs op) ≡ false
stops-step true (Some op) = refl
stops-step true None = refl
stops-step false (Some op) = refl
stops-step false None = refl

-- what comes out of an entry while the node boots
outs_of_boot : (s : Settings) (me : ℕ) (log : List Line) (tick : ℕ) (entry : What) → phase s log ≡ Booting
    → outs_at s me log tick entry (taken_in log tick entry)
    ≡ boot_outs s me (begins_clean (taken_in log tick entry)) (slot_number (taken_in log tick entry)) entry
unfolding outs_at
outs_of_boot s me log tick entry booting = rw booting

-- an entry is a step of the boot that goes on and asks for an operation
record GoesOn (s : Settings) (me : ℕ) (log : List Line) (tick : ℕ) (entry : What) (after : DiskOp) : Type 0 where
  is_step : is_boot_step entry ≡ true
  goes_on : boot_halt s entry ≡ None
  asks : boot_op me (begins_clean (taken_in log tick entry)) (slot_number (taken_in log tick entry)) entry ≡ Some after
  is_no_view : view_of entry ≡ None

-- what comes out of such a step
outs_of_step : (s : Settings) (me : ℕ) (log : List Line) (tick : ℕ) (entry : What) (after : DiskOp)
    → phase s log ≡ Booting → GoesOn s me log tick entry after
    → outs_at s me log tick entry (taken_in log tick entry) ≡ when (not (is_begin entry)) out.Feed ++ disk_outs (Some after)
outs_of_step s me log tick entry after booting step =
    outs_of_boot s me log tick entry booting ∙ rw (step.is_step, step.goes_on, step.asks)

-- nothing but the boot has happened in a log, apart from where it stands and what it claimed
record IsQuiet (log : List Line) : Type 0 where
  has_no_view : view log ≡ None
  holds_nothing : holds log ≡ false
  stops_nothing : stop_due log ≡ false

quiet_step : (s : Settings) (me : ℕ) (log : List Line) (tick : ℕ) (entry : What) (after : DiskOp)
    → phase s log ≡ Booting → GoesOn s me log tick entry after → IsQuiet log → IsQuiet (with_read s me log tick entry)
unfolding view holds stop_due
quiet_step s me log tick entry after booting step quiet =
    let outs = outs_of_step s me log tick entry after booting step in
    let feed = not (is_begin entry) in
    record {
      has_no_view = rw (step.is_no_view, quiet.has_no_view);
      holds_nothing = rw (outs, starts-step feed (Some after), quiet.holds_nothing);
      stops_nothing = rw (outs, stops-step feed (Some after), quiet.stops_nothing);
    }

quiet_of : {s : Settings} {op : DiskOp} {number : Option ℕ} {log : List Line} → BootFor s op number log → IsQuiet log
quiet_of waits = record {
  has_no_view = waits.has_no_view;
  holds_nothing = waits.holds_nothing;
  stops_nothing = waits.stops_nothing;
}

asked_by_step : (s : Settings) (me : ℕ) (log : List Line) (tick : ℕ) (entry : What) (after : DiskOp)
    → phase s log ≡ Booting → GoesOn s me log tick entry after
    → disk_of (outs_at s me log tick entry (taken_in log tick entry)) ≡ Some after
asked_by_step s me log tick entry after booting step =
    ap disk_of (outs_of_step s me log tick entry after booting step) ∙ disk_of-step (not (is_begin entry)) (Some after)

-- a step that goes on and leaves the node booting
boot_step : (s : Settings) (me : ℕ) (log : List Line) (tick : ℕ) (entry : What) (after : DiskOp) (before number : Option ℕ)
    → phase s log ≡ Booting → mail_tick log ≡ 0 → claimed log ≡ before → IsQuiet log
    → GoesOn s me log tick entry after
    → asks_mail (Some after) ≡ false
    → option_or (claim_of (Some after)) before ≡ number
    → ((timely : Bool) → next_phase s entry timely Booting ≡ Booting)
    → BootFor s after number (with_read s me log tick entry)
unfolding phase op_out mail_tick claimed
boot_step s me log tick entry after before number booting unread has quiet step other claims stays =
    let asked = asked_by_step s me log tick entry after booting step in
    let still = quiet_step s me log tick entry after booting step quiet in
    record {
      is_booting = rw booting (stays (in_time tick log));
      is_out = rw asked;
      has_claimed = rw (asked, has) claims;
      is_unread = rw (asked, other) unread;
      has_no_view = still.has_no_view;
      holds_nothing = still.holds_nothing;
      stops_nothing = still.stops_nothing;
    }

pub begin_stands : (s : Settings) (me tick nodes : ℕ) → nodes ≡ length s.nodes
    → (clean : Bool)
    → WantHeaderFor s (record { nodes = nodes; clean = clean }) (with_read s me [] tick (begin_of clean))
unfolding phase mail_tick claimed view holds stop_due begins_clean
begin_stands s me tick nodes count false = record {
  waits =
      boot_step s me [] tick what.Begin disk.ReadHeader None None refl refl refl
      (record { has_no_view = refl; holds_nothing = refl; stops_nothing = refl })
      (record { is_step = refl; goes_on = refl; asks = refl; is_no_view = refl })
      refl refl (λ timely. refl);
  has_count = count;
  has_mode = refl;
}
begin_stands s me tick nodes count true = record {
  waits =
      boot_step s me [] tick what.BeginClean disk.ReadHeader None None refl refl refl
      (record { has_no_view = refl; holds_nothing = refl; stops_nothing = refl })
      (record { is_step = refl; goes_on = refl; asks = refl; is_no_view = refl })
      refl refl (λ timely. refl);
  has_count = count;
  has_mode = refl;
}

-- a header for as many nodes with safe times goes on
pub header_on : (s : Settings) (seen : HeaderSeen) (nodes : ℕ) (times : Timing) → seen ≡ header.Read nodes times
    → nodes ≡ length s.nodes → is_safe times ≡ true → boot_halt s (what.Header seen) ≡ None
header_on s seen nodes times is count safe =
    let same = eq-eqb nodes (length s.nodes) count in
    rw (is, same, safe)

pub header_stands : (s : Settings) (me tick nodes : ℕ) (seen : HeaderSeen) (times : Timing) (want : WantHeader) (clean : Bool) (log : List Line)
    → seen ≡ header.Read nodes times
    → boot_halt s (what.Header seen) ≡ None
    → clean ≡ want.clean
    → WantHeaderFor s want log
    → WantSlotFor s me (record { times = times; clean = clean }) (with_read s me log tick (what.Header seen))
unfolding timing begins_clean
header_stands s me tick nodes seen times want clean log is on mode stands =
    let waits = stands.waits in
    let step : GoesOn s me log tick (what.Header seen) (disk.ReadSlot (rank_of me)) =
    record { is_step = refl; goes_on = on; asks = refl; is_no_view = refl } in
    record {
      waits =
          boot_step s me log tick (what.Header seen) (disk.ReadSlot (rank_of me)) None None waits.is_booting waits.is_unread waits.has_claimed (quiet_of waits) step refl refl (λ timely. rw on);
      has_times = rw is;
      has_mode = mode ∙ stands.has_mode;
    }

-- the incarnation that is claimed after a read of the slot is one more than it gave
number_after_slot : (rank : Rank) (seen : SlotSeen) (before claims : ℕ) → claim_after seen ≡ Some (disk.WriteClaim claims)
    → claims ≡ unwrap_or (number_read (what.SlotRead rank seen)) before + 1
number_after_slot rank (slot.Read own) before claims is = cc
number_after_slot rank slot.Damaged before claims is = cc
number_after_slot rank slot.Failed before claims is = cc

pub slot_stands : (s : Settings) (me tick : ℕ) (seen : SlotSeen) (before : WantSlot) (after : AfterSlot) (log : List Line)
    → boot_halt s (what.SlotRead (rank_of me) seen) ≡ None
    → claim_after seen ≡ Some (disk.WriteClaim (claims_after after))
    → times_after after ≡ before.times
    → is_check after ≡ before.clean
    → WantSlotFor s me before log
    → AfterSlotFor s after (with_read s me log tick (what.SlotRead (rank_of me) seen))
unfolding timing begins_clean slot_number
slot_stands s me tick seen before (Claim after) log on claims times mode stands =
    let waits = stands.waits in
    let entry = what.SlotRead (rank_of me) seen in
    let op = disk.WriteClaim after.claims in
    let is_no_check : begins_clean log ≡ false = sym (mode ∙ stands.has_mode) in
    let step : GoesOn s me log tick entry op = record { is_step = refl; goes_on = on; asks = rw is_no_check claims; is_no_view = refl } in
    record {
      waits =
          boot_step s me log tick entry op None (Some after.claims) waits.is_booting waits.is_unread waits.has_claimed (quiet_of waits) step refl refl (λ timely. rw on);
      has_times = times ∙ stands.has_times;
    }
slot_stands s me tick seen before (Check after) log on claims times mode stands =
    let waits = stands.waits in
    let entry = what.SlotRead (rank_of me) seen in
    let is_clean_start : begins_clean log ≡ true = sym (mode ∙ stands.has_mode) in
    let step : GoesOn s me log tick entry disk.CheckMail = record { is_step = refl; goes_on = on; asks = rw is_clean_start; is_no_view = refl } in
    record {
      waits =
          boot_step s me log tick entry disk.CheckMail None None waits.is_booting waits.is_unread waits.has_claimed (quiet_of waits) step refl refl (λ timely. rw on);
      has_times = times ∙ stands.has_times;
      has_number = number_after_slot (rank_of me) seen (slot_number log) after.claims claims;
    }

pub check_stands : (s : Settings) (me tick : ℕ) (seen : MailSeen) (before : WantCheck) (after : WantClaim) (log : List Line)
    → boot_halt s (what.MailChecked seen) ≡ None
    → after.times ≡ before.times
    → after.claims ≡ before.claims
    → WantCheckFor s before log
    → WantClaimFor s after (with_read s me log tick (what.MailChecked seen))
unfolding timing slot_number
check_stands s me tick seen before after log on times claims stands =
    let waits = stands.waits in
    let entry = what.MailChecked seen in
    let op = disk.WriteClaim after.claims in
    let step : GoesOn s me log tick entry op = record {
      is_step = refl;
      goes_on = on;
      asks = ap (λ number. Some (disk.WriteClaim number)) (sym (claims ∙ stands.has_number));
      is_no_view = refl;
    } in
    record {
      waits =
          boot_step s me log tick entry op None (Some after.claims) waits.is_booting waits.is_unread waits.has_claimed (quiet_of waits) step refl refl (λ timely. rw on);
      has_times = times ∙ stands.has_times;
    }

pub claim_stands : (s : Settings) (me tick : ℕ) (ok : Bool) (before : WantClaim) (after : WantClear) (log : List Line)
    → ok ≡ true
    → after.times ≡ before.times
    → after.claims ≡ before.claims
    → WantClaimFor s before log
    → WantClearFor s after (with_read s me log tick (what.Claimed ok))
unfolding timing
claim_stands s me tick ok before after log good times claims stands =
    let waits = stands.waits in
    let entry = what.Claimed ok in
    let step : GoesOn s me log tick entry disk.WriteClear = record { is_step = refl; goes_on = rw good; asks = refl; is_no_view = refl } in
    record {
      waits =
          boot_step s me log tick entry disk.WriteClear (Some before.claims) (Some after.claims) waits.is_booting waits.is_unread waits.has_claimed (quiet_of waits) step refl (rw claims) (λ timely. rw good);
      has_times = times ∙ stands.has_times;
    }

pub clear_stands : (s : Settings) (me : ℕ) (ok : Bool) (before : WantClear) (ready : Ready) (log : List Line)
    → ok ≡ true
    → ready.timing ≡ before.times
    → ready.incarnation ≡ before.claims
    → WantClearFor s before log
    → ReadyFor s ready (with_read s me log ready.tick (what.Cleared ok))
unfolding phase op_out mail_tick timing claimed
clear_stands s me ok before ready log good times number stands =
    let waits = stands.waits in
    let entry = what.Cleared ok in
    let step : GoesOn s me log ready.tick entry disk.ReadMail = record { is_step = refl; goes_on = rw good; asks = refl; is_no_view = refl } in
    let asked = asked_by_step s me log ready.tick entry disk.ReadMail waits.is_booting step in
    let still = quiet_step s me log ready.tick entry disk.ReadMail waits.is_booting step (quiet_of waits) in
    record {
      is_up = rw good;
      is_out = rw asked;
      has_tick = refl;
      is_asked = rw asked;
      has_times = times ∙ stands.has_times;
      has_claimed = rw (asked, number) waits.has_claimed;
      has_no_view = still.has_no_view;
      holds_nothing = still.holds_nothing;
      stops_nothing = still.stops_nothing;
    }

-- an entry that is read as a Tick
boot_waits : (s : Settings) (me tick : ℕ) (op : DiskOp) (number : Option ℕ) (log : List Line) → BootFor s op number log
    → BootFor s op number (with_read s me log tick what.Tick)
unfolding phase op_out mail_tick claimed view holds stop_due
boot_waits s me tick op number log waits =
    let nothing = outs_of_boot s me log tick what.Tick waits.is_booting in
    record {
      is_booting = waits.is_booting;
      is_out = rw nothing waits.is_out;
      has_claimed = rw nothing waits.has_claimed;
      is_unread = rw nothing waits.is_unread;
      has_no_view = waits.has_no_view;
      holds_nothing = rw (nothing, waits.holds_nothing);
      stops_nothing = rw (nothing, waits.stops_nothing);
    }

pub header_waits : (s : Settings) (me tick : ℕ) (want : WantHeader) (log : List Line) → WantHeaderFor s want log
    → WantHeaderFor s want (with_read s me log tick what.Tick)
unfolding begins_clean
header_waits s me tick want log stands = record {
  waits = boot_waits s me tick disk.ReadHeader None log stands.waits;
  has_count = stands.has_count;
  has_mode = stands.has_mode;
}

pub slot_waits : (s : Settings) (me tick : ℕ) (want : WantSlot) (log : List Line) → WantSlotFor s me want log
    → WantSlotFor s me want (with_read s me log tick what.Tick)
unfolding timing begins_clean
slot_waits s me tick want log stands = record {
  waits = boot_waits s me tick (disk.ReadSlot (rank_of me)) None log stands.waits;
  has_times = stands.has_times;
  has_mode = stands.has_mode;
}

pub check_waits : (s : Settings) (me tick : ℕ) (want : WantCheck) (log : List Line) → WantCheckFor s want log
    → WantCheckFor s want (with_read s me log tick what.Tick)
unfolding timing slot_number
check_waits s me tick want log stands = record {
  waits = boot_waits s me tick disk.CheckMail None log stands.waits;
  has_times = stands.has_times;
  has_number = stands.has_number;
}

pub claim_waits : (s : Settings) (me tick : ℕ) (want : WantClaim) (log : List Line) → WantClaimFor s want log
    → WantClaimFor s want (with_read s me log tick what.Tick)
unfolding timing
claim_waits s me tick want log stands = record {
  waits = boot_waits s me tick (disk.WriteClaim want.claims) (Some want.claims) log stands.waits;
  has_times = stands.has_times;
}

pub clear_waits : (s : Settings) (me tick : ℕ) (want : WantClear) (log : List Line) → WantClearFor s want log
    → WantClearFor s want (with_read s me log tick what.Tick)
unfolding timing
clear_waits s me tick want log stands = record {
  waits = boot_waits s me tick disk.WriteClear (Some want.claims) log stands.waits;
  has_times = stands.has_times;
}

-- What the states of a boot stand for: this project's profile.
use Rattle.std.specs.Prelude.{◌≡◌, ℕ, ◌+◌, Bool, true, false, List, length, Option, None, Some, Result, Ok, Err}
use Rattle.qn_model.specs.declared.configuration.Settings.{Settings}
use Rattle.qn_model.specs.declared.life.Phase.TheVariants.{Booting, Up}
use Rattle.qn_model.specs.declared.outputs.BootCause.{BootCause}
use Rattle.qn_model.specs.declared.outputs.DiskOp.{DiskOp}
use Rattle.qn_model.specs.declared.outputs.DiskOp.TheVariants as disk
use Rattle.qn_model.specs.declared.times.Timing.{Timing}
use Rattle.qn_model.specs.Log.{Line, begins_clean, claimed, now, op_out, slot_number, timing}
use Rattle.qn_model.specs.Phases.{phase}
use Rattle.qn_model.specs.Holding.{holds, stop_due}
use Rattle.qn_model.specs.NodeVotes.{view}
use Rattle.qn_model.specs.Wanted.{mail_tick, rank_of}
use Rattle.qn_boot.specs.declared.steps.WantHeader.{WantHeader}
use Rattle.qn_boot.specs.declared.steps.WantSlot.{WantSlot}
use Rattle.qn_boot.specs.declared.steps.WantCheck.{WantCheck}
use Rattle.qn_boot.specs.declared.steps.WantClaim.{WantClaim}
use Rattle.qn_boot.specs.declared.steps.WantClear.{WantClear}
use Rattle.qn_boot.specs.declared.steps.AfterSlot.{AfterSlot}
use Rattle.qn_boot.specs.declared.steps.AfterSlot.TheVariants.{Check, Claim}
use Rattle.qn_boot.specs.declared.steps.Ready.{Ready}
use Rattle.qn_boot.specs.declared.steps.Halt.{Halt}

-- why a step halted, None where it went on
abbrev pub halted_by : {A : Type 0} → Result A Halt → Option BootCause
halted_by (Ok next) = None
halted_by (Err halt) = Some halt.cause

-- whether the mailbox is checked after the slot
abbrev pub is_check : AfterSlot → Bool
is_check (Check boot) = true
is_check (Claim boot) = false

-- the times of a boot after its slot
abbrev pub times_after : AfterSlot → Timing
times_after (Check boot) = boot.times
times_after (Claim boot) = boot.times

-- the incarnation that a boot claims after its slot
abbrev pub claims_after : AfterSlot → ℕ
claims_after (Check boot) = boot.claims
claims_after (Claim boot) = boot.claims

-- a boot that waits for the answer of an operation, and has claimed so much, stands for a log: nothing
-- but the boot has happened in it
pub record BootFor (s : Settings) (op : DiskOp) (number : Option ℕ) (log : List Line) : Type 0 where
  pub is_booting : phase s log ≡ Booting
  pub is_out : op_out log ≡ Some op
  pub has_claimed : claimed log ≡ number
  pub is_unread : mail_tick log ≡ 0
  pub has_no_view : view log ≡ None
  pub holds_nothing : holds log ≡ false
  pub stops_nothing : stop_due log ≡ false

-- the boot waits for the header
pub record WantHeaderFor (s : Settings) (want : WantHeader) (log : List Line) : Type 0 where
  pub waits : BootFor s disk.ReadHeader None log
  pub has_count : want.nodes ≡ length s.nodes
  pub has_mode : want.clean ≡ begins_clean log

-- the boot waits for the slot of this node
pub record WantSlotFor (s : Settings) (me : ℕ) (want : WantSlot) (log : List Line) : Type 0 where
  pub waits : BootFor s (disk.ReadSlot (rank_of me)) None log
  pub has_times : want.times ≡ timing log
  pub has_mode : want.clean ≡ begins_clean log

-- sbd(8), `-S`: the boot waits for its mailbox to be checked
pub record WantCheckFor (s : Settings) (want : WantCheck) (log : List Line) : Type 0 where
  pub waits : BootFor s disk.CheckMail None log
  pub has_times : want.times ≡ timing log
  pub has_number : want.claims ≡ slot_number log + 1

-- the boot waits for its claim
pub record WantClaimFor (s : Settings) (want : WantClaim) (log : List Line) : Type 0 where
  pub waits : BootFor s (disk.WriteClaim want.claims) (Some want.claims) log
  pub has_times : want.times ≡ timing log

-- the boot waits for what comes after its slot
abbrev pub AfterSlotFor : Settings → AfterSlot → List Line → Type 0
AfterSlotFor s (Check boot) log = WantCheckFor s boot log
AfterSlotFor s (Claim boot) log = WantClaimFor s boot log

-- the boot waits for its mailbox to be cleared
pub record WantClearFor (s : Settings) (want : WantClear) (log : List Line) : Type 0 where
  pub waits : BootFor s disk.WriteClear (Some want.claims) log
  pub has_times : want.times ≡ timing log

-- the boot has ended well with the newest entry: the node is up, its mailbox is being read, and nothing
-- but the boot has happened
pub record ReadyFor (s : Settings) (ready : Ready) (log : List Line) : Type 0 where
  pub is_up : phase s log ≡ Up
  pub is_out : op_out log ≡ Some disk.ReadMail
  pub has_tick : now log ≡ ready.tick
  pub is_asked : mail_tick log ≡ ready.tick
  pub has_times : ready.timing ≡ timing log
  pub has_claimed : claimed log ≡ Some ready.incarnation
  pub has_no_view : view log ≡ None
  pub holds_nothing : holds log ≡ false
  pub stops_nothing : stop_due log ≡ false

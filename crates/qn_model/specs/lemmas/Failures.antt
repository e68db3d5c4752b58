-- The entry of an operation that failed tells nothing of what the disk holds.
use Rattle.std.proofs.Common.{◌≡◌, ℕ, true, false, None, ◌==◌, refl}
use Rattle.std.proofs.lemmas.Bool.{false≢true}
use Rattle.qn_base.specs.declared.ids.Rank.{Rank}
use Rattle.qn_base.specs.lemmas.Bools.{second_of_both}
use Rattle.qn_model.specs.declared.entries.What.TheVariants as what
use Rattle.qn_model.specs.declared.disk.Slot.{Slot}
use Rattle.qn_model.specs.declared.seen.SlotSeen.TheVariants as slot
use Rattle.qn_model.specs.declared.outputs.DiskOp.{DiskOp}
use Rattle.qn_model.specs.declared.outputs.DiskOp.TheVariants as disk
use Rattle.qn_model.specs.Licences.{writes_reset}
use Rattle.qn_model.specs.Log.{times_of}
use Rattle.qn_model.specs.NodeOutputs.{feeds_on}
use Rattle.qn_model.specs.Phases.{message_of}
use Rattle.qn_model.specs.World.{failed}

-- no times
pub failed_times : (op : DiskOp) → times_of (failed op) ≡ None
unfolding failed
failed_times disk.ReadHeader = refl
failed_times (disk.ReadSlot other) = refl
failed_times disk.CheckMail = refl
failed_times (disk.WriteClaim number) = refl
failed_times disk.WriteClear = refl
failed_times disk.ReadMail = refl
failed_times (disk.WriteReset other) = refl
failed_times (disk.WriteClose number) = refl

-- no message that a node feeds on
pub failed_no_mail : (op : DiskOp) → feeds_on (message_of (failed op)) ≡ false
unfolding failed
failed_no_mail disk.ReadMail = refl
failed_no_mail disk.ReadHeader = refl
failed_no_mail (disk.ReadSlot other) = refl
failed_no_mail disk.CheckMail = refl
failed_no_mail (disk.WriteClaim number) = refl
failed_no_mail disk.WriteClear = refl
failed_no_mail (disk.WriteReset other) = refl
failed_no_mail (disk.WriteClose number) = refl

-- no reset that was written
pub failed_unwritten : (j : ℕ) (op : DiskOp) → writes_reset j (failed op) ≡ true → ⊥
unfolding failed
failed_unwritten j (disk.WriteReset other) e = false≢true (second_of_both (other.0 == j) false e)
failed_unwritten j disk.ReadHeader e = false≢true e
failed_unwritten j (disk.ReadSlot other) e = false≢true e
failed_unwritten j disk.CheckMail e = false≢true e
failed_unwritten j (disk.WriteClaim number) e = false≢true e
failed_unwritten j disk.WriteClear e = false≢true e
failed_unwritten j disk.ReadMail e = false≢true e
failed_unwritten j (disk.WriteClose number) e = false≢true e

-- no slot
pub failed_own : (op : DiskOp) (rank : Rank) (own : Slot) → failed op ≡ what.SlotRead rank (slot.Read own) → ⊥
unfolding failed
failed_own disk.ReadHeader rank own e = cc
failed_own (disk.ReadSlot other) rank own e = cc
failed_own disk.CheckMail rank own e = cc
failed_own (disk.WriteClaim number) rank own e = cc
failed_own disk.WriteClear rank own e = cc
failed_own disk.ReadMail rank own e = cc
failed_own (disk.WriteReset other) rank own e = cc
failed_own (disk.WriteClose number) rank own e = cc

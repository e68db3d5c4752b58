-- The disk operations of a node on three images: the call of each, and its answer.
use Rattle.std.proofs.Common.{◌≡◌, ◌≤◌, ℕ, Bool, true, false, not, List, [], ◌∷◌, length, if◌then◌else◌, refl, sym, ap, ◌∙◌, arith}
use Rattle.qn_base.specs.declared.calls.Call.{Call}
use Rattle.qn_base.specs.declared.calls.Call.TheVariants as call
use Rattle.qn_base.specs.Calls.{blank, is_failed}
use Rattle.qn_io.specs.Answered.{bytes_read, is_read}
use Rattle.qn_model.specs.declared.configuration.Settings.{Settings}
use Rattle.qn_model.specs.declared.outputs.DiskOp.{DiskOp}
use Rattle.qn_model.specs.declared.outputs.DiskOp.TheVariants as disk
use Rattle.qn_model.specs.declared.outputs.Out.TheVariants as out
use Rattle.qn_model.specs.World.{failed, is_write}
use Rattle.qn_node.specs.Outputs.{IsNodeOutput}
use Rattle.qn_safety.specs.declared.part.Part.{Part}
use Rattle.qn_safety.specs.declared.part.Part.TheVariants.{Failed}
use Rattle.qn_live.specs.declared.asked.Given.{Given}
use Rattle.qn_live.specs.declared.asked.Room.{Room}
use Rattle.qn_live.specs.Asking.{Tells}
use Rattle.qn_live.specs.Performing.{disk_answer, disk_call, done}
use Rattle.qn_live.specs.PlacesRead.{mail_is_read, slot_is_read}
use Rattle.qn_live.specs.TripleDisk.{part_of, part_of_entry, read_entry, read_of, reading, sector_of}
use Rattle.qn_live.specs.TripleLaws.{IsTold}
use Rattle.qn_live.specs.TripleOperations.{answer_as, checked, place_of, read_as}
use Rattle.qn_live.proofs.Answers.{ReadsMailBack, header_taken, mail_taken, slot_taken}

-- ## The call of an operation

pub read_call : (s : Settings) (me number : ℕ) (op : DiskOp) → is_write op ≡ false → disk_call s me number op ≡ call.Read (place_of me op) [] true
unfolding disk_call
read_call s me number disk.ReadHeader is = refl
read_call s me number (disk.ReadSlot rank) is = refl
read_call s me number disk.CheckMail is = refl
read_call s me number disk.ReadMail is = refl
read_call s me number (disk.WriteClaim next) is = cc
read_call s me number (disk.WriteClose own) is = cc
read_call s me number disk.WriteClear is = cc
read_call s me number (disk.WriteReset rank) is = cc

pub record WritesAt (asked : Call) (sector : ℕ) : Type 0 where
  pub bytes : List ℕ
  pub is : asked ≡ call.Write sector bytes true

pub write_call : (s : Settings) (me number : ℕ) (op : DiskOp) → is_write op ≡ true → WritesAt (disk_call s me number op) (place_of me op)
unfolding disk_call
write_call s me number (disk.WriteClaim next) is = record { bytes = _; is = refl }
write_call s me number (disk.WriteClose own) is = record { bytes = _; is = refl }
write_call s me number disk.WriteClear is = record { bytes = _; is = refl }
write_call s me number (disk.WriteReset rank) is = record { bytes = _; is = refl }
write_call s me number disk.ReadHeader is = cc
write_call s me number (disk.ReadSlot rank) is = cc
write_call s me number disk.CheckMail is = cc
write_call s me number disk.ReadMail is = cc

-- ## The operation that reads a sector

pub place_is_read : (s : Settings) (me : ℕ) (op : DiskOp) → length s.nodes ≤ 32 → IsNodeOutput s (out.Disk op) → is_write op ≡ false
    → reading (place_of me op) ≡ read_as op
place_is_read s me disk.ReadHeader few fits is = refl
place_is_read s me (disk.ReadSlot rank) few fits is = slot_is_read rank (omega (arith, few, fits))
place_is_read s me disk.CheckMail few fits is = mail_is_read me
place_is_read s me disk.ReadMail few fits is = mail_is_read me
place_is_read s me (disk.WriteClaim next) few fits is = cc
place_is_read s me (disk.WriteClose own) few fits is = cc
place_is_read s me disk.WriteClear few fits is = cc
place_is_read s me (disk.WriteReset rank) few fits is = cc

-- ## What a call told

pub read_made : (made : Call) (sector : ℕ) → blank made ≡ call.Read sector [] true → is_read made ≡ true
read_made (call.Read place bytes ok) sector is = refl
read_made (call.OpenImage path ok) sector is = cc
read_made (call.OpenNode images image watchdog resource port rank ok) sector is = cc
read_made (call.Now tick) sector is = cc
read_made (call.Receive got) sector is = cc
read_made (call.Write place bytes ok) sector is = cc
read_made (call.Feed ok) sector is = cc
read_made (call.Start ok) sector is = cc
read_made (call.Stop ok) sector is = cc
read_made (call.Send to bytes ok) sector is = cc
read_made (call.Disarm ok) sector is = cc
read_made (call.Halt code) sector is = cc

pub part_by_room : (s : Settings) (op : DiskOp) (made : Call) (given : Given) (room : Room) → Tells made given room → is_read made ≡ true
    → (if given.ok then part_of_entry (done s op room.sector) else Failed) ≡ part_of s op made
part_by_room s op made given room tells reads = of_ok given.ok tells.ok
  where
    of_ok : (ok : Bool) → is_failed made ≡ not ok → (if ok then part_of_entry (done s op room.sector) else Failed) ≡ part_of s op made
    of_ok true is = rw is (ap (λ bytes. part_of_entry (done s op bytes)) (sym (tells.bytes reads is)))
    of_ok false is = rw is refl

pub done_by_given : (failing ok : Bool) → failing ≡ not ok → ok ≡ not failing
done_by_given true true is = cc
done_by_given true false is = refl
done_by_given false true is = refl
done_by_given false false is = cc

-- ## The answer of an operation

-- a write is answered so, whatever a sector holds
pub write_answered : (s : Settings) (op : DiskOp) (sector : ℕ) (bytes other : List ℕ) (ok : Bool) → is_write op ≡ true
    → disk_answer s op (call.Write sector bytes ok) ≡ (if ok then done s op other else failed op)
unfolding done
write_answered s op sector bytes other false is = refl
write_answered s (disk.WriteClaim next) sector bytes other true is = refl
write_answered s (disk.WriteClose own) sector bytes other true is = refl
write_answered s disk.WriteClear sector bytes other true is = refl
write_answered s (disk.WriteReset rank) sector bytes other true is = refl
write_answered s disk.ReadHeader sector bytes other true is = cc
write_answered s (disk.ReadSlot rank) sector bytes other true is = cc
write_answered s disk.CheckMail sector bytes other true is = cc
write_answered s disk.ReadMail sector bytes other true is = cc

check_is_read : (s : Settings) (made : Call) → disk_answer s disk.CheckMail made ≡ checked (disk_answer s disk.ReadMail made)
unfolding done failed
check_is_read s made = of_test (is_failed made)
  where
    of_test : (failing : Bool) → (if failing then failed disk.CheckMail else done s disk.CheckMail (bytes_read made))
        ≡ checked (if failing then failed disk.ReadMail else done s disk.ReadMail (bytes_read made))
    of_test true = refl
    of_test false = refl

-- a read is answered by what three images tell together
module _ (s : Settings) (sector : ℕ) (back : ReadsMailBack) (one two three : Part) (good : List Bool) where
  abbrev together : DiskOp → Type 0
  together op =
      disk_answer s op (read_of sector (sector_of s (read_entry (read_as op) (one ∷ two ∷ three ∷ []) good)))
      ≡ answer_as op (read_entry (read_as op) (one ∷ two ∷ three ∷ []) good)

  pub read_answered : (op : DiskOp) → is_write op ≡ false → IsTold s (read_as op) one → IsTold s (read_as op) two → IsTold s (read_as op) three → together op
  read_answered disk.ReadHeader is first second third = header_taken s sector back one two three good first second third
  read_answered (disk.ReadSlot rank) is first second third = slot_taken s sector back rank one two three good first second third
  read_answered disk.ReadMail is first second third = mail_taken s sector back one two three good first second third
  read_answered disk.CheckMail is first second third =
      check_is_read s (read_of sector (sector_of s (read_entry disk.ReadMail (one ∷ two ∷ three ∷ []) good)))
      ∙ ap checked (mail_taken s sector back one two three good first second third)
  read_answered (disk.WriteClaim next) is first second third = cc
  read_answered (disk.WriteClose own) is first second third = cc
  read_answered disk.WriteClear is first second third = cc
  read_answered (disk.WriteReset rank) is first second third = cc

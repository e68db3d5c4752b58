-- What the bytes of an answer are where a disk operation comes next.
use Rattle.std.proofs.Common.{◌≡◌, ℕ, List, Option, None, Some, Bool, true, false, slice_get, option_and_then, if◌then◌else◌, refl, sym, ap, ◌∙◌}
use Rattle.qn_model.specs.declared.outputs.DiskOp.{DiskOp}
use Rattle.qn_model.specs.declared.outputs.DiskOp.TheVariants as disk
use Rattle.qn_model.specs.declared.outputs.Out.{Out}
use Rattle.qn_model.specs.World.{is_write}
use Rattle.qn_live.specs.declared.asked.Given.{Given}
use Rattle.qn_live.specs.declared.asked.Room.{Room}
use Rattle.qn_live.specs.declared.decoded.Decoded.{Decoded}
use Rattle.qn_live.specs.declared.decoded.Decoded.TheVariants as decoded
use Rattle.qn_live.specs.declared.place.Place.{Place}
use Rattle.qn_live.specs.declared.place.Place.TheVariants as place
use Rattle.qn_live.specs.declared.run.NodeRun.{NodeRun}
use Rattle.qn_live.specs.Decoding.{decoded_at, decoded_by, decoded_in, decoded_of, decoded_op, decoded_out}
use Rattle.qn_live.specs.Machine.{operation_at, operation_in, operation_of}
use Rattle.qn_live.specs.TripleOperations.{read_as}

-- an output that is performed is the one whose operation comes next
pub act_decoded : (outs : List Out) (at : ℕ) (out : Out) (given : Given) (room : Room) → slice_get outs at ≡ Some out
    → decoded_out out given room ≡ decoded_at (place.Act at) (operation_at outs (place.Act at)) given room
act_decoded outs at out given room found = ap (λ (o : Option Out). decoded_by (option_and_then operation_in o) given room) (sym found)

-- an operation comes next where outputs are performed alone
op_decoded_at : (outs : List Out) (at : Place) (op : DiskOp) (given : Given) (room : Room) → operation_at outs at ≡ Some op
    → decoded_op op given room ≡ decoded_at at (operation_at outs at) given room
op_decoded_at outs (place.Act at) op given room is = ap (λ (o : Option DiskOp). decoded_by o given room) (sym is)
op_decoded_at outs place.Receive op given room is = cc
op_decoded_at outs (place.Now choice) op given room is = cc
op_decoded_at outs (place.Poll poll greets) op given room is = cc
op_decoded_at outs (place.Greet said to) op given room is = cc
op_decoded_at outs (place.Part view to) op given room is = cc
op_decoded_at outs (place.Over end) op given room is = cc

pub op_decoded : (run : NodeRun) (op : DiskOp) (given : Given) (room : Room) → operation_of run ≡ Some op → decoded_op op given room ≡ decoded_of run given room
op_decoded run op given room is = op_decoded_at run.outs run.place op given room is

-- the read that is made for an operation is decoded as the operation, and a write reads nothing
same_decoded : (op : DiskOp) (bytes : List ℕ) → decoded_in (read_as op) bytes ≡ decoded_in op bytes
same_decoded disk.ReadHeader bytes = refl
same_decoded (disk.ReadSlot rank) bytes = refl
same_decoded disk.CheckMail bytes = refl
same_decoded disk.ReadMail bytes = refl
same_decoded (disk.WriteClaim next) bytes = refl
same_decoded (disk.WriteClose own) bytes = refl
same_decoded disk.WriteClear bytes = refl
same_decoded (disk.WriteReset rank) bytes = refl

pub read_decoded : (op : DiskOp) (given : Given) (room : Room)
    → (if given.ok then decoded_in (read_as op) room.sector else decoded.Nothing) ≡ decoded_op op given room
read_decoded op given room = ap (λ (d : Decoded). if given.ok then d else decoded.Nothing) (same_decoded op room.sector)

written_in : (op : DiskOp) (bytes : List ℕ) → is_write op ≡ true → decoded.Nothing ≡ decoded_in op bytes
written_in (disk.WriteClaim next) bytes is = refl
written_in (disk.WriteClose own) bytes is = refl
written_in disk.WriteClear bytes is = refl
written_in (disk.WriteReset rank) bytes is = refl
written_in disk.ReadHeader bytes is = cc
written_in (disk.ReadSlot rank) bytes is = cc
written_in disk.CheckMail bytes is = cc
written_in disk.ReadMail bytes is = cc

pub write_decoded : (op : DiskOp) (given : Given) (room : Room) → is_write op ≡ true → decoded.Nothing ≡ decoded_op op given room
write_decoded op given room is = of_ok given.ok (written_in op room.sector is)
  where
    of_ok : (ok : Bool) → decoded.Nothing ≡ decoded_in op room.sector → decoded.Nothing ≡ (if ok then decoded_in op room.sector else decoded.Nothing)
    of_ok true same = same
    of_ok false same = refl

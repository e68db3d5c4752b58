-- What an entry and its outputs mean to the cluster that keeps a node: this project's profile.
use Rattle.std.specs.Prelude.{Bool, List, Option, None, Some, ◌&&◌, ◌||◌, not, if◌then◌else◌}
use Rattle.std.specs.Option.{option_or}
use Rattle.qn_model.specs.declared.entries.What.{What}
use Rattle.qn_model.specs.declared.outputs.DiskOp.{DiskOp}
use Rattle.qn_model.specs.declared.packets.Sent.{Sent}
use Rattle.qn_model.specs.declared.outputs.Out.{Out}
use Rattle.qn_model.specs.declared.outputs.Out.TheVariants as out
use Rattle.qn_model.specs.Log.{disk_of, has_stop, is_answer}
use Rattle.qn_model.specs.Holding.{answers_stop}

-- the packet that an output sends
abbrev pub packet_in : Out → Option Sent
packet_in (out.Send to packet) = Some (record { to = to; packet = packet })
packet_in output = None

-- the operation that is out after an entry with these outputs
abbrev pub op_with : What → List Out → Option DiskOp → Option DiskOp
op_with what outs before = option_or (disk_of outs) (if is_answer what then None else before)

-- whether a Stop is unanswered after an entry with these outputs
abbrev pub stop_with : What → List Out → Bool → Bool
stop_with what outs before = has_stop outs || (before && not (answers_stop what))

-- What the bytes of an answer are to a node and to whoever is told of its calls: this project's profile.
use Rattle.std.specs.Prelude.{ℕ, List, Option, None, Some, is_some, if◌then◌else◌}
use Rattle.std.specs.Option.{option_map_or}
use Rattle.qn_base.specs.declared.calls.Received.{Received}
use Rattle.qn_io.specs.Receives.{received}
use Rattle.qn_model.specs.declared.outputs.DiskOp.{DiskOp}
use Rattle.qn_model.specs.declared.outputs.DiskOp.TheVariants as disk
use Rattle.qn_model.specs.declared.outputs.Out.{Out}
use Rattle.qn_sector.specs.Reading.{header_of, mail_of}
use Rattle.qn_live.specs.declared.asked.Given.{Given}
use Rattle.qn_live.specs.declared.asked.Room.{Room}
use Rattle.qn_live.specs.declared.decoded.Came.{Came}
use Rattle.qn_live.specs.declared.decoded.Decoded.{Decoded}
use Rattle.qn_live.specs.declared.decoded.Decoded.TheVariants as decoded
use Rattle.qn_live.specs.declared.place.Place.{Place}
use Rattle.qn_live.specs.declared.place.Place.TheVariants as place
use Rattle.qn_live.specs.declared.run.NodeRun.{NodeRun}
use Rattle.qn_live.specs.Choosing.{is_request, packet_in}
use Rattle.qn_live.specs.Machine.{operation_in, operation_of}
use Rattle.qn_live.specs.Polling.{reply_in}
use Rattle.qn_live.specs.Words.{word_in}

-- what came, as each of the four that it can be
abbrev pub came_in : Received → Came
came_in got = record { packet = packet_in got; reply = reply_in got; is_request = is_request got; word = word_in got }

-- what the bytes are that a disk operation read
abbrev pub decoded_in : DiskOp → List ℕ → Decoded
decoded_in disk.ReadHeader bytes = decoded.Header (is_some (header_of bytes))
decoded_in disk.CheckMail bytes = decoded.Mailbox (mail_of bytes)
decoded_in disk.ReadMail bytes = decoded.Mailbox (mail_of bytes)
decoded_in (disk.ReadSlot rank) bytes = decoded.Nothing
decoded_in (disk.WriteClaim next) bytes = decoded.Nothing
decoded_in (disk.WriteClose own) bytes = decoded.Nothing
decoded_in disk.WriteClear bytes = decoded.Nothing
decoded_in (disk.WriteReset rank) bytes = decoded.Nothing

-- the same of an operation that was answered so, and of an output
abbrev pub decoded_op : DiskOp → Given → Room → Decoded
decoded_op op given room = if given.ok then decoded_in op room.sector else decoded.Nothing

abbrev pub decoded_by : Option DiskOp → Given → Room → Decoded
decoded_by operation given room = option_map_or (λ op. decoded_op op given room) operation decoded.Nothing

abbrev pub decoded_out : Out → Given → Room → Decoded
decoded_out out given room = decoded_by (operation_in out) given room

-- what the bytes of an answer are at a place: those of what was received, or of the disk operation that comes next there
abbrev pub decoded_at : Place → Option DiskOp → Given → Room → Decoded
decoded_at place.Receive operation given room = decoded.Came (came_in (received given.got room.packet))
decoded_at (place.Act at) operation given room = decoded_by operation given room
decoded_at (place.Now choice) operation given room = decoded.Nothing
decoded_at (place.Poll poll greets) operation given room = decoded.Nothing
decoded_at (place.Greet said to) operation given room = decoded.Nothing
decoded_at (place.Part view to) operation given room = decoded.Nothing
decoded_at (place.Over end) operation given room = decoded.Nothing

-- what the bytes of an answer are to a run that waits for it
abbrev pub decoded_of : NodeRun → Given → Room → Decoded
decoded_of run given room = decoded_at run.place (operation_of run) given room

-- What can come out of a node: this project's profile.
use Rattle.std.specs.Prelude.{◌<◌, length}
use Rattle.qn_model.specs.declared.configuration.Settings.{Settings}
use Rattle.qn_model.specs.declared.packets.Packet.TheVariants as packet
use Rattle.qn_model.specs.declared.outputs.DiskOp.TheVariants as disk
use Rattle.qn_model.specs.declared.outputs.Out.{Out}
use Rattle.qn_model.specs.declared.outputs.Out.TheVariants as out

-- an output of a node: a packet is an Ask or a Tell to a configured node, and a read of a slot or a reset is
-- that of a configured node
abbrev pub IsNodeOutput : Settings → Out → Type 0
IsNodeOutput s (out.Send to (packet.Ask ask)) = to.0 < length s.nodes
IsNodeOutput s (out.Send to (packet.Tell tell)) = to.0 < length s.nodes
IsNodeOutput s (out.Send to (packet.Hello from)) = ⊥
IsNodeOutput s (out.Send to (packet.Heard from said standing)) = ⊥
IsNodeOutput s (out.Send to (packet.Announce from view)) = ⊥
IsNodeOutput s (out.Send to (packet.Vote agrees)) = ⊥
IsNodeOutput s (out.Disk (disk.ReadSlot rank)) = rank.0 < length s.nodes
IsNodeOutput s (out.Disk (disk.WriteReset rank)) = rank.0 < length s.nodes
IsNodeOutput s (out.Disk disk.ReadHeader) = Unit {0}
IsNodeOutput s (out.Disk disk.CheckMail) = Unit {0}
IsNodeOutput s (out.Disk (disk.WriteClaim number)) = Unit {0}
IsNodeOutput s (out.Disk disk.WriteClear) = Unit {0}
IsNodeOutput s (out.Disk disk.ReadMail) = Unit {0}
IsNodeOutput s (out.Disk (disk.WriteClose number)) = Unit {0}
IsNodeOutput s out.Stop = Unit {0}
IsNodeOutput s out.Start = Unit {0}
IsNodeOutput s out.Feed = Unit {0}
IsNodeOutput s out.Disarm = Unit {0}
IsNodeOutput s (out.Halt kind) = Unit {0}

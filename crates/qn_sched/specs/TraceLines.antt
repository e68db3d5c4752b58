-- The lines that a replay writes for its events: this project's profile.
use Rattle.std.specs.Prelude.{ℕ, List, [], ◌∷◌, ◌++◌, Option, None, Some, map, codes, decimal}
use Rattle.std.specs.List.{join_with_byte}
use Rattle.qn_base.specs.declared.ids.Mask.{Mask}
use Rattle.qn_base.specs.declared.ids.Rank.{Rank}
use Rattle.qn_base.specs.declared.ids.NodeId.{NodeId}
use Rattle.qn_model.specs.declared.life.Why.{Why}
use Rattle.qn_model.specs.declared.outputs.DiskOp.{DiskOp}
use Rattle.qn_model.specs.declared.outputs.DiskOp.TheVariants as disk
use Rattle.qn_model.specs.declared.outputs.HaltKind.{HaltKind}
use Rattle.qn_model.specs.declared.outputs.HaltKind.TheVariants as halt
use Rattle.qn_model.specs.declared.outputs.Out.{Out}
use Rattle.qn_model.specs.declared.outputs.Out.TheVariants as out
use Rattle.qn_model.specs.declared.packets.Packet.{Packet}
use Rattle.qn_model.specs.declared.packets.Packet.TheVariants as packet
use Rattle.qn_model.specs.declared.reports.Report.{Report}
use Rattle.qn_model.specs.declared.votes.Answer.{Answer}
use Rattle.qn_model.specs.Messages.{message_name}
use Rattle.qn_names.specs.AnswerTexts.{answer_text}
use Rattle.qn_names.specs.CauseNumbers.{cause_number}
use Rattle.qn_names.specs.MemberWords.{ids_from}
use Rattle.qn_names.specs.WhyTexts.{why_text}
use Rattle.qn_sched.specs.declared.holder.Holder.{Holder}
use Rattle.qn_sched.specs.declared.holder.Holder.TheVariants as holder
use Rattle.qn_sched.specs.EventLines.{id_word}

-- a packet that is sent, before the `>` and the id of its receiver
abbrev pub packet_word : Packet → List ℕ
packet_word (packet.Ask ask) = codes "ask"
packet_word (packet.Tell tell) = codes "tell"
packet_word (packet.Hello from) = codes "hello"
packet_word (packet.Announce from view) = codes "announce"
packet_word (packet.Vote agrees) = codes "vote"
packet_word (packet.Heard from said standing) = codes "heard"

abbrev pub halt_word : HaltKind → List ℕ
halt_word (halt.Deadly message) = codes "halt:" ++ message_name message
halt_word (halt.Boot cause) = codes "halt:boot-" ++ decimal (cause_number cause)

abbrev pub disk_word : List ℕ → DiskOp → List ℕ
disk_word ids disk.ReadHeader = codes "read-header"
disk_word ids (disk.ReadSlot rank) = codes "read-slot:" ++ id_word ids rank
disk_word ids disk.CheckMail = codes "check-mail"
disk_word ids (disk.WriteClaim incarnation) = codes "claim:" ++ decimal incarnation
disk_word ids disk.WriteClear = codes "clear"
disk_word ids disk.ReadMail = codes "read-mail"
disk_word ids (disk.WriteReset rank) = codes "reset:" ++ id_word ids rank
disk_word ids (disk.WriteClose incarnation) = codes "close:" ++ decimal incarnation

-- one output
abbrev pub out_word : List ℕ → Out → List ℕ
out_word ids out.Stop = codes "stop"
out_word ids out.Start = codes "start"
out_word ids out.Feed = codes "feed"
out_word ids (out.Send rank packet) = packet_word packet ++ codes ">" ++ id_word ids rank
out_word ids (out.Disk op) = disk_word ids op
out_word ids out.Disarm = codes "disarm"
out_word ids (out.Halt kind) = halt_word kind

-- the parts of a list, joined by a byte, or `-` where there is none
abbrev pub joined_or_dash : ℕ → List (List ℕ) → List ℕ
joined_or_dash byte [] = codes "-"
joined_or_dash byte (word ∷ words) = join_with_byte byte (word ∷ words)

abbrev pub outs_text : List ℕ → List Out → List ℕ
outs_text ids outs = joined_or_dash 44 (map (out_word ids) outs)

-- the ids of the nodes that hold the resource
abbrev pub holders_text : List ℕ → Mask → List ℕ
holders_text ids holders = joined_or_dash 43 (map decimal (ids_from 0 ids holders))

-- the same, where at most one node holds
abbrev pub holder_text : Holder → List ℕ
holder_text holder.Nobody = codes "-"
holder_text (holder.Node id) = decimal id.0

-- the time of an event, after its number
abbrev pub time_text : ℕ → List ℕ
time_text time = codes " " ++ decimal time

-- what stands after the holders in the line of a node
abbrev pub end_text : Answer → Why → List ℕ
end_text answer why = answer_text answer ++ codes " why=" ++ why_text why

-- what stands before the outputs of a node, and after them where at most one node holds
abbrev pub front_text : NodeId → List ℕ
front_text id = codes " " ++ decimal id.0 ++ codes " "

abbrev pub back_text : Holder → Answer → Why → List ℕ
back_text holder answer why = codes " holders=" ++ holder_text holder ++ end_text answer why

-- what stands after the outputs of a node
abbrev pub state_text : List ℕ → Report → List ℕ
state_text ids report =
    codes " holders=" ++ holders_text ids report.holders ++ answer_text report.answer ++ codes " why=" ++ why_text report.why

-- What stands after the number and the time, with this text in place of the outputs of the node that is touched, or in place
-- of a node and its outputs where none is.
abbrev pub touched_with : List ℕ → Report → List ℕ → Option Rank → List ℕ
touched_with ids report said None = codes " " ++ said ++ codes " holders=" ++ holders_text ids report.holders
touched_with ids report said (Some rank) = codes " " ++ id_word ids rank ++ codes " " ++ said ++ state_text ids report

-- what stands after the number and the time: at a pass, and at an event of a node
abbrev pub touched_text : List ℕ → Report → Option Rank → List ℕ
touched_text ids report None = touched_with ids report (codes "- -") None
touched_text ids report (Some rank) = touched_with ids report (outs_text ids report.outs) (Some rank)

-- the trace line of an event, without its end, where the nodes have these ids by rank
unfoldable pub trace_line : List ℕ → ℕ → Report → List ℕ
trace_line ids number report = decimal number ++ codes " " ++ decimal report.time ++ touched_text ids report report.touched

-- the same, with this text in place of the outputs of the node, or of the two dashes of a pass
unfoldable pub trace_line_with : List ℕ → ℕ → Report → List ℕ → List ℕ
trace_line_with ids number report said =
    decimal number ++ codes " " ++ decimal report.time ++ touched_with ids report said report.touched

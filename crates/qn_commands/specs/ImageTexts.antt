-- What the commands of an image write: sbd(8), and this project's profile for the words.
use Rattle.std.specs.Prelude.{ℕ, Option, None, Some, List, [], ◌++◌, codes, decimal, if◌then◌else◌}
use Rattle.qn_base.specs.declared.ids.NodeId.{NodeId}
use Rattle.qn_base.specs.Text.{yes_no}
use Rattle.qn_model.specs.declared.disk.Message.{Message}
use Rattle.qn_model.specs.declared.disk.Slot.{Slot}
use Rattle.qn_model.specs.declared.mailbox.Mail.{Mail}
use Rattle.qn_model.specs.declared.mailbox.Sender.{Sender}
use Rattle.qn_model.specs.declared.times.Timing.{Timing}
use Rattle.qn_model.specs.Messages.{message_name, operator_word}
use Rattle.qn_model.specs.Timing.{is_safe}

-- `create`
abbrev pub created_text : ℕ → List ℕ
created_text nodes = codes "created nodes " ++ decimal nodes ++ codes "\n"

-- `migrate`
abbrev pub migrated_text : ℕ → List ℕ
migrated_text nodes = codes "migrated nodes " ++ decimal nodes ++ codes "\n"

-- `dump`: the version, the number of nodes and the times of the header
unfoldable pub times_text : ℕ → ℕ → Timing → List ℕ
times_text version nodes t =
    codes "version " ++ decimal version ++ codes "\nnodes " ++ decimal nodes ++ codes "\nwatchdog " ++ decimal t.watchdog ++ codes "\nmsgwait " ++ decimal t.msgwait
    ++ codes "\nloop " ++ decimal t.loop_ms ++ codes "\nread_limit " ++ decimal t.read_limit ++ codes "\nfeed_delay " ++ decimal t.feed_delay

-- `dump`: all of it
unfoldable pub dump_text : ℕ → ℕ → Timing → List ℕ
dump_text version nodes t = times_text version nodes t ++ codes "\nsafe " ++ yes_no (is_safe t) ++ codes "\n"

-- `list`: who wrote a message, where somebody is named
abbrev pub sender_text : Option Sender → List ℕ
sender_text None = []
sender_text (Some sender) = codes " by " ++ decimal sender.id.0 ++ codes ":" ++ decimal sender.incarnation

-- `list`: the line of a node
unfoldable pub list_line : NodeId × Slot × Mail → List ℕ
list_line line =
    codes "node " ++ decimal line.0.0 ++ codes " incarnation " ++ decimal line.1.incarnation
    ++ (if line.1.clean then codes " clean mail " else codes " dirty mail ") ++ message_name line.2.message ++ sender_text line.2.by ++ codes "\n"

-- `message`
abbrev pub sent_text : Message → NodeId → List ℕ
sent_text kind id = codes "sent " ++ operator_word kind ++ codes " to " ++ decimal id.0 ++ codes "\n"

use Rattle.std.specs.Prelude.{◌≤◌, ◌<◌, ◌^◌, ℕ, Bool, true, false, Option, None, Some, List, [], ◌∷◌, ◌++◌, ◌+◌, ◌*◌, codes, replicate, cond}
use Rattle.std.specs.Int.{bytes_high_first}
use Rattle.qn_model.specs.declared.disk.Message.{Message}
use Rattle.qn_model.specs.declared.disk.Message.TheVariants.{Empty, Test, Reset, Off, Exit, Crashdump}
use Rattle.qn_model.specs.declared.disk.Slot.{Slot}
use Rattle.qn_model.specs.declared.mailbox.Mail.{Mail}
use Rattle.qn_model.specs.declared.mailbox.Sender.{Sender}
use Rattle.qn_model.specs.declared.times.Timing.{Timing}

-- this project's profile: a sector of an image has 512 bytes. Its numbers are big-endian, and where no
-- field stands its bytes are zeros.
abbrev pub zeros : ℕ → List ℕ
zeros count = replicate count 0

-- sector 0: the name of the format and its version, the number of nodes, and the five times
unfoldable pub header_bytes_in : ℕ → ℕ → Timing → List ℕ
header_bytes_in version nodes t =
    codes "QNSBD001" ++ bytes_high_first 2 version ++ bytes_high_first 2 nodes ++ zeros 4 ++ bytes_high_first 8 t.watchdog
    ++ bytes_high_first 8 t.msgwait ++ bytes_high_first 8 t.loop_ms ++ bytes_high_first 8 t.read_limit
    ++ bytes_high_first 8 t.feed_delay ++ zeros 456

-- the header of version 2, and that of version 1
abbrev pub header_bytes : ℕ → Timing → List ℕ
header_bytes nodes t = header_bytes_in 2 nodes t

abbrev pub header_bytes_1 : ℕ → Timing → List ℕ
header_bytes_1 nodes t = header_bytes_in 1 nodes t

-- a node's slot: its id, its incarnation, and 1 where it stopped clean
unfoldable pub slot_bytes : ℕ → Slot → List ℕ
slot_bytes id slot =
    codes "SLOT" ++ bytes_high_first 4 id ++ bytes_high_first 8 slot.incarnation ++ cond slot.clean 1 0 ∷ [] ++ zeros 495

-- the byte of a message
abbrev pub message_code : Message → ℕ
message_code Empty = 0
message_code Test = 1
message_code Reset = 2
message_code Off = 3
message_code Exit = 4
message_code Crashdump = 5

-- who wrote a message, in numbers: zeros where nobody is named
abbrev pub sender_id : Option Sender → ℕ
sender_id None = 0
sender_id (Some sender) = sender.id.0

abbrev pub sender_incarnation : Option Sender → ℕ
sender_incarnation None = 0
sender_incarnation (Some sender) = sender.incarnation

-- a sender is a node: its id is 1 or more, and both numbers fit their bytes
pub record IsSender (sender : Sender) : Type 0 where
  pub some_id : 1 ≤ sender.id.0
  pub id_fits : sender.id.0 < 2 ^ 32
  pub incarnation_fits : sender.incarnation < 2 ^ 64

-- a node's mailbox in version 2: its message and who wrote it
unfoldable pub mail_bytes : Mail → List ℕ
mail_bytes mail =
    codes "MAIL" ++ message_code mail.message ∷ [] ++ zeros 3 ++ bytes_high_first 4 (sender_id mail.by)
    ++ bytes_high_first 8 (sender_incarnation mail.by) ++ zeros 492

-- a message of nobody
abbrev pub anonymous : Message → Mail
anonymous message = record { message = message; by = None }

-- a node's mailbox in version 1: its message
unfoldable pub mail_bytes_1 : Message → List ℕ
mail_bytes_1 message = codes "MAIL" ++ message_code message ∷ [] ++ zeros 507

-- sbd(8), `message`: a node that reads the message resets, powers off or crashes
abbrev pub is_deadly : Message → Bool
is_deadly Empty = false
is_deadly Test = false
is_deadly Reset = true
is_deadly Off = true
is_deadly Exit = false
is_deadly Crashdump = true

-- this project's profile: in version 1 the slot of a rank and its mailbox stand side by side after the header. In
-- version 2 the mailboxes stand on their own, so that those of version 1 stay while they are written.
abbrev pub slot_place : ℕ → ℕ
slot_place rank = 1 + 2 * rank

abbrev pub mail_place : ℕ → ℕ
mail_place rank = 512 + rank

abbrev pub mail_place_1 : ℕ → ℕ
mail_place_1 rank = 2 + 2 * rank

use Rattle.std.specs.Prelude.{◌≡◌, ◌<◌, ◌≤◌, ◌^◌, ℕ, Bool, not, ◌&&◌, ◌==◌, nat_le, List, drop, slice_index, Option, Some, None, IfSome, is_none, option_and_then, if◌then◌else◌, IsTrue}
use Rattle.std.specs.Str.{bytes_eq}
use Rattle.byteorder.specs.Endian.{big_number}
use Rattle.qn_base.specs.declared.ids.NodeId.{NodeId}
use Rattle.qn_model.specs.declared.disk.Message.{Message}
use Rattle.qn_model.specs.declared.disk.Message.TheVariants.{Empty, Test, Reset, Off, Exit, Crashdump}
use Rattle.qn_model.specs.declared.disk.Slot.{Slot}
use Rattle.qn_model.specs.declared.mailbox.Mail.{Mail}
use Rattle.qn_model.specs.declared.mailbox.Sender.{Sender}
use Rattle.qn_model.specs.declared.times.Timing.{Timing}
use Rattle.qn_model.specs.Sectors.{IsSender, header_bytes_in, slot_bytes, mail_bytes}
use Rattle.qn_model.specs.Timing.{has_periods}

-- How this project's sectors are read: the fields are taken from their places, and the sector counts
-- only where it is the spelling of what was taken.

-- the sector is the spelling of this header in that version
pub record SpellsHeader (version : ℕ) (sector : List ℕ) (nodes : ℕ) (timing : Timing) : Type 0 where
  pub some_nodes : 1 ≤ nodes
  pub few_nodes : nodes ≤ 32
  pub times : IsTrue (has_periods timing)
  pub bytes : sector ≡ header_bytes_in version nodes timing

-- the sector is the spelling of this node's slot
pub record SpellsSlot (sector : List ℕ) (id : NodeId) (slot : Slot) : Type 0 where
  pub some_id : 1 ≤ id.0
  pub id_fits : id.0 < 2 ^ 32
  pub incarnation_fits : slot.incarnation < 2 ^ 64
  pub bytes : sector ≡ slot_bytes id.0 slot

-- the sector is the spelling of this mailbox
pub record SpellsMail (sector : List ℕ) (mail : Mail) : Type 0 where
  pub sender : IfSome mail.by IsSender
  pub bytes : sector ≡ mail_bytes mail

-- the fields of a header
abbrev pub nodes_at : List ℕ → ℕ
nodes_at sector = big_number 2 (drop 10 sector)

abbrev pub timing_at : List ℕ → Timing
timing_at sector =
    record {
      watchdog = big_number 8 (drop 16 sector);
      msgwait = big_number 8 (drop 24 sector);
      loop_ms = big_number 8 (drop 32 sector);
      read_limit = big_number 8 (drop 40 sector);
      feed_delay = big_number 8 (drop 48 sector);
    }

-- the numbers of a header are in their ranges
abbrev pub is_header : ℕ → Timing → Bool
is_header nodes timing = nat_le 1 nodes && nat_le nodes 32 && has_periods timing

-- the number of nodes and the times that the sector spells in that version
unfoldable pub header_in : ℕ → List ℕ → Option (ℕ × Timing)
header_in version sector =
    if is_header (nodes_at sector) (timing_at sector)
    && bytes_eq (header_bytes_in version (nodes_at sector) (timing_at sector)) sector
    then Some (nodes_at sector, timing_at sector)
    else None

-- the same in version 2, and in version 1
abbrev pub header_of : List ℕ → Option (ℕ × Timing)
header_of sector = header_in 2 sector

abbrev pub header_of_1 : List ℕ → Option (ℕ × Timing)
header_of_1 sector = header_in 1 sector

-- the fields of a slot
abbrev pub id_at : List ℕ → ℕ
id_at sector = big_number 4 (drop 4 sector)

abbrev pub slot_at : List ℕ → Slot
slot_at sector = record { incarnation = big_number 8 (drop 8 sector); clean = slice_index sector 16 == 1 }

-- the node's id and the slot that the sector spells
unfoldable pub slot_of : List ℕ → Option (NodeId × Slot)
slot_of sector =
    if not (id_at sector == 0) && bytes_eq (slot_bytes (id_at sector) (slot_at sector)) sector
    then Some (record { 0 = id_at sector }, slot_at sector)
    else None

-- the message of a byte
abbrev pub message_of : ℕ → Option Message
message_of code =
    if code == 0 then Some Empty
    else if code == 1 then Some Test
    else if code == 2 then Some Reset
    else if code == 3 then Some Off
    else if code == 4 then Some Exit
    else if code == 5 then Some Crashdump
    else None

-- the sender of a mailbox: an id of 0 names nobody
abbrev pub sender_id_at : List ℕ → ℕ
sender_id_at sector = big_number 4 (drop 8 sector)

abbrev pub sender_at : List ℕ → Option Sender
sender_at sector =
    if sender_id_at sector == 0 then None
    else Some (record { id = record { 0 = sender_id_at sector }; incarnation = big_number 8 (drop 12 sector) })

-- the mailbox counts only where the sector is its spelling
abbrev pub if_spelled : List ℕ → Mail → Option Mail
if_spelled sector mail = if bytes_eq (mail_bytes mail) sector then Some mail else None

-- the mailbox that the sector spells
unfoldable pub mail_of : List ℕ → Option Mail
mail_of sector =
    option_and_then (λ message. if_spelled sector (record { message = message; by = sender_at sector })) (message_of (slice_index sector 4))

-- a message of nobody
abbrev pub nobodys : Mail → Option Message
nobodys mail = if is_none mail.by then Some mail.message else None

-- the message that the sector spells as a mailbox of version 1, which is spelled as a mailbox that names nobody
unfoldable pub mail_of_1 : List ℕ → Option Message
mail_of_1 sector = option_and_then nobodys (mail_of sector)

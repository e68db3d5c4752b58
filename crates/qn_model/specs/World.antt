-- The world of a cluster: its nodes in true time and the one image that they share. This project's profile, after sbd(8).
use Rattle.std.specs.Prelude.{ℕ, suc, zero, Bool, true, false, List, [], ◌∷◌, Option, None, Some, ◌==◌, length, if◌then◌else◌, slice_get}
use Rattle.qn_model.specs.declared.configuration.Settings.{Settings}
use Rattle.qn_model.specs.declared.times.Timing.{Timing}
use Rattle.qn_model.specs.declared.disk.Message.{Message}
use Rattle.qn_model.specs.declared.disk.Message.TheVariants as message
use Rattle.qn_model.specs.declared.disk.Slot.{Slot}
use Rattle.qn_model.specs.declared.seen.HeaderSeen.TheVariants as header
use Rattle.qn_model.specs.declared.seen.SlotSeen.TheVariants as slot
use Rattle.qn_model.specs.declared.seen.MailSeen.TheVariants as mail
use Rattle.qn_model.specs.declared.entries.What.{What}
use Rattle.qn_model.specs.declared.entries.What.TheVariants as what
use Rattle.qn_model.specs.declared.outputs.DiskOp.{DiskOp}
use Rattle.qn_model.specs.declared.outputs.DiskOp.TheVariants as disk
use Rattle.qn_model.specs.Log.{op_out}
use Rattle.qn_model.specs.Moments.{Moment, Running, node}

-- The world after some moments. By rank: what the operation that is out took at its landing, as the entry that answers
-- it, None where none is out or it has not landed; the writes that are left over, oldest first; the slot; and the mailbox.
-- The header of the image is that of the settings and the timing, and stays.
pub record World : Type 0 where
  pub moments : List Moment
  pub took : ℕ → Option What
  pub left : ℕ → List DiskOp
  pub slots : ℕ → Slot
  pub mailboxes : ℕ → Message

-- at the beginning all nodes are off, no slot was ever claimed, all mailboxes are empty, and nothing is under way
abbrev pub first_world : World
first_world =
    record {
      moments = [];
      took = λ rank. None;
      left = λ rank. [];
      slots = λ rank. record { incarnation = 0; clean = true };
      mailboxes = λ rank. message.Empty;
    }

-- one value of a function is replaced
abbrev pub put : {A : Type 0} → (ℕ → A) → ℕ → A → ℕ → A
put f rank value other = if rank == other then value else f other

-- the node of a rank
abbrev pub node_at : Settings → ℕ → World → Running
node_at s rank w = node s rank w.moments

-- the operation of a running node that is out
abbrev pub op_at : Settings → ℕ → World → Option DiskOp
op_at s rank w = op_out (node_at s rank w).log

-- the slots after a write of a rank landed
abbrev pub slots_with : ℕ → DiskOp → (ℕ → Slot) → ℕ → Slot
slots_with rank (disk.WriteClaim number) slots = put slots rank (record { incarnation = number; clean = false })
slots_with rank (disk.WriteClose number) slots = put slots rank (record { incarnation = number; clean = true })
slots_with rank disk.ReadHeader slots = slots
slots_with rank (disk.ReadSlot other) slots = slots
slots_with rank disk.CheckMail slots = slots
slots_with rank disk.WriteClear slots = slots
slots_with rank disk.ReadMail slots = slots
slots_with rank (disk.WriteReset other) slots = slots

-- the mailboxes after a write of a rank landed
abbrev pub mailboxes_with : ℕ → DiskOp → (ℕ → Message) → ℕ → Message
mailboxes_with rank disk.WriteClear mailboxes = put mailboxes rank message.Empty
mailboxes_with rank (disk.WriteReset other) mailboxes = put mailboxes other.0 message.Reset
mailboxes_with rank disk.ReadHeader mailboxes = mailboxes
mailboxes_with rank (disk.ReadSlot other) mailboxes = mailboxes
mailboxes_with rank disk.CheckMail mailboxes = mailboxes
mailboxes_with rank (disk.WriteClaim number) mailboxes = mailboxes
mailboxes_with rank disk.ReadMail mailboxes = mailboxes
mailboxes_with rank (disk.WriteClose number) mailboxes = mailboxes

-- the entry that answers an operation of a rank that lands: a read takes the value of its sector
unfoldable pub taken : Settings → Timing → ℕ → DiskOp → World → What
taken s t rank disk.ReadHeader w = what.Header (header.Read (length s.nodes) t)
taken s t rank (disk.ReadSlot other) w = what.SlotRead other (slot.Read (w.slots other.0))
taken s t rank disk.CheckMail w = what.MailChecked (mail.Read (w.mailboxes rank))
taken s t rank (disk.WriteClaim number) w = what.Claimed true
taken s t rank disk.WriteClear w = what.Cleared true
taken s t rank disk.ReadMail w = what.MailRead (mail.Read (w.mailboxes rank))
taken s t rank (disk.WriteReset other) w = what.MailWritten other true
taken s t rank (disk.WriteClose number) w = what.Closed true

-- the entry of an operation that failed: Failed for a read, false for a write
unfoldable pub failed : DiskOp → What
failed disk.ReadHeader = what.Header header.Failed
failed (disk.ReadSlot other) = what.SlotRead other slot.Failed
failed disk.CheckMail = what.MailChecked mail.Failed
failed (disk.WriteClaim number) = what.Claimed false
failed disk.WriteClear = what.Cleared false
failed disk.ReadMail = what.MailRead mail.Failed
failed (disk.WriteReset other) = what.MailWritten other false
failed (disk.WriteClose number) = what.Closed false

abbrev pub is_write : DiskOp → Bool
is_write disk.ReadHeader = false
is_write (disk.ReadSlot other) = false
is_write disk.CheckMail = false
is_write disk.ReadMail = false
is_write (disk.WriteClaim number) = true
is_write disk.WriteClear = true
is_write (disk.WriteReset other) = true
is_write (disk.WriteClose number) = true

-- a write that is given up before it landed, as a leftover
abbrev pub given_up : Option DiskOp → Option What → List DiskOp
given_up (Some op) None = if is_write op then op ∷ [] else []
given_up op landed = []

-- what the present operation of a rank leaves over where it is given up
abbrev pub leftover_at : Settings → ℕ → World → List DiskOp
leftover_at s rank w = given_up (op_at s rank w) (w.took rank)

-- the item of that number, from 1
abbrev pub numbered : {A : Type 0} → List A → ℕ → Option A
numbered items zero = None
numbered items (suc place) = slice_get items place

-- the items without the one of that number, from 1
abbrev pub without : {A : Type 0} → List A → ℕ → List A
without [] number = []
without (item ∷ items) zero = item ∷ items
without (item ∷ items) (suc zero) = items
without (item ∷ items) (suc (suc place)) = item ∷ without items (suc place)

-- The world of a cluster whose disk is three images: its nodes in true time, the parts of their operations, and the images.
-- Image numbers are 1 to 3. This project's profile, after sbd(8).
use Rattle.std.specs.Prelude.{ℕ, Bool, true, false, List, [], ◌∷◌, ◌++◌, Option, None, Some, ◌==◌, ◌&&◌, ◌||◌, not, nat_lt, unwrap_or, if◌then◌else◌}
use Rattle.std.specs.List.{list_any}
use Rattle.qn_model.specs.declared.configuration.Settings.{Settings}
use Rattle.qn_model.specs.declared.disk.Message.{Message}
use Rattle.qn_model.specs.declared.disk.Message.TheVariants as message
use Rattle.qn_model.specs.declared.disk.Slot.{Slot}
use Rattle.qn_model.specs.declared.seen.HeaderSeen.{HeaderSeen}
use Rattle.qn_model.specs.declared.seen.HeaderSeen.TheVariants as header
use Rattle.qn_model.specs.declared.seen.SlotSeen.{SlotSeen}
use Rattle.qn_model.specs.declared.seen.SlotSeen.TheVariants as slot
use Rattle.qn_model.specs.declared.seen.MailSeen.TheVariants as mail
use Rattle.qn_model.specs.declared.entries.What.{What}
use Rattle.qn_model.specs.declared.entries.What.TheVariants as what
use Rattle.qn_model.specs.declared.outputs.DiskOp.{DiskOp}
use Rattle.qn_model.specs.declared.outputs.DiskOp.TheVariants as disk
use Rattle.qn_safety.specs.declared.part.Part.{Part}
use Rattle.qn_safety.specs.declared.part.Part.TheVariants.{Pending, Landed, Failed}
use Rattle.qn_model.specs.Log.{op_out}
use Rattle.qn_model.specs.Phases.{is_exit}
use Rattle.qn_model.specs.Moments.{Moment, node}
use Rattle.qn_model.specs.Sectors.{is_deadly}
use Rattle.qn_model.specs.World.{World, first_world, put, failed, is_write}

-- The world after some moments. By rank and image: the part of the operation that is out; the writes that are left over,
-- oldest first; whether the image is a good one of the node; the slot; and the mailbox. The header of each image is that of
-- the settings and the timing, and stays.
pub record TripleWorld : Type 0 where
  pub moments : List Moment
  pub parts : ℕ → ℕ → Part
  pub left : ℕ → ℕ → List DiskOp
  pub good : ℕ → ℕ → Bool
  pub slots : ℕ → ℕ → Slot
  pub mailboxes : ℕ → ℕ → Message

-- no part has landed or failed; each image is a good one
abbrev pub all_pending : ℕ → Part
all_pending image = Pending

abbrev pub all_good : ℕ → Bool
all_good image = true

-- nothing is left over on any image
abbrev pub none_left : ℕ → List DiskOp
none_left image = []

-- at the beginning all nodes are off, and the three images are as new
abbrev pub first_triple : TripleWorld
first_triple =
    record {
      moments = [];
      parts = λ rank. all_pending;
      left = λ rank. none_left;
      good = λ rank. all_good;
      slots = λ rank image. record { incarnation = 0; clean = true };
      mailboxes = λ rank image. message.Empty;
    }

-- the value of a rank and an image is replaced
abbrev pub put_on : {A : Type 0} → (ℕ → ℕ → A) → ℕ → ℕ → A → ℕ → ℕ → A
put_on f rank image value = put f rank (put (f rank) image value)

-- one of the images with the nodes, as a world of one image in which no operation has landed
abbrev pub image_of : ℕ → TripleWorld → World
image_of image w =
    record {
      moments = w.moments;
      took = λ rank. None;
      left = λ rank. w.left rank image;
      slots = λ rank. w.slots rank image;
      mailboxes = λ rank. w.mailboxes rank image;
    }

-- the nodes, as a world of one image as new
abbrev pub nodes_of : TripleWorld → World
nodes_of w = record first_world { moments = w.moments }

-- the operation of a node that is out
abbrev pub op_of : Settings → ℕ → TripleWorld → Option DiskOp
op_of s rank w = op_out (node s rank w.moments).log

abbrev pub is_pending : Part → Bool
is_pending Pending = true
is_pending (Landed value) = false
is_pending Failed = false

-- a part landed and did not fail
abbrev pub has_landed : Part → Bool
has_landed Pending = false
has_landed (Landed value) = true
has_landed Failed = false

abbrev pub has_failed : Part → Bool
has_failed Pending = false
has_failed (Landed value) = false
has_failed Failed = true

-- what a part leaves over on its image where it is given up: a write that did not land there
abbrev pub leaves_over : Option DiskOp → Part → List DiskOp
leaves_over (Some op) Pending = if is_write op then op ∷ [] else []
leaves_over (Some op) (Landed value) = []
leaves_over (Some op) Failed = []
leaves_over None part = []

-- whether a part counts on a good image alone: after its clear a node reads its mailbox only where the clear landed, since a
-- clear that failed on an image may land there late and erase a reset
abbrev pub needs_good : DiskOp → Bool
needs_good disk.ReadMail = true
needs_good disk.ReadHeader = false
needs_good (disk.ReadSlot other) = false
needs_good disk.CheckMail = false
needs_good (disk.WriteClaim number) = false
needs_good disk.WriteClear = false
needs_good (disk.WriteReset other) = false
needs_good (disk.WriteClose number) = false

-- the value of a part that counts: it landed and did not fail
abbrev pub counted : DiskOp → Bool → Part → List What
counted op good Pending = []
counted op good (Landed value) = if good || not (needs_good op) then value ∷ [] else []
counted op good Failed = []

-- the values of the parts that count, in the order of images
abbrev pub counting : DiskOp → (ℕ → Part) → (ℕ → Bool) → List What
counting op parts good = counted op (good 1) (parts 1) ++ (counted op (good 2) (parts 2) ++ counted op (good 3) (parts 3))

-- the slots among the values
abbrev pub slots_among : List What → List Slot
slots_among [] = []
slots_among (what.SlotRead other (slot.Read found) ∷ values) = found ∷ slots_among values
slots_among (value ∷ values) = slots_among values

-- a slot stands above another one: its incarnation is greater, or equal and it alone is clean
abbrev pub is_above : Slot → Slot → Bool
is_above one other =
    nat_lt other.incarnation one.incarnation || one.incarnation == other.incarnation && one.clean && not other.clean

-- the highest of some slots
abbrev pub highest : Slot → List Slot → Slot
highest best [] = best
highest best (next ∷ more) = highest (if is_above next best then next else best) more

abbrev pub slot_among : List Slot → SlotSeen
slot_among [] = slot.Failed
slot_among (first ∷ more) = slot.Read (highest first more)

-- the messages among the values
abbrev pub messages_among : List What → List Message
messages_among [] = []
messages_among (what.MailRead (mail.Read found) ∷ values) = found ∷ messages_among values
messages_among (what.MailChecked (mail.Read found) ∷ values) = found ∷ messages_among values
messages_among (value ∷ values) = messages_among values

-- the first of some messages that is deadly
abbrev pub first_deadly : List Message → Option Message
first_deadly [] = None
first_deadly (found ∷ more) = if is_deadly found then Some found else first_deadly more

abbrev pub is_test : Message → Bool
is_test message.Test = true
is_test other = false

-- what is told where none is deadly: exit if any is that, else test if any is that, else empty
abbrev pub harmless : List Message → Message
harmless found = if list_any is_exit found then message.Exit else (if list_any is_test found then message.Test else message.Empty)

-- what some messages tell together
abbrev pub message_among : List Message → Message
message_among found = unwrap_or (first_deadly found) (harmless found)

-- the header of a value
abbrev pub header_of : What → HeaderSeen
header_of (what.Header seen) = seen
header_of value = header.Failed

-- the entry that two or more values give together, of which one is the first
abbrev pub together : DiskOp → What → List What → What
together disk.ReadHeader first values = what.Header (header_of first)
together (disk.ReadSlot other) first values = what.SlotRead other (slot_among (slots_among values))
together disk.CheckMail first values = what.MailChecked (mail.Read (message_among (messages_among values)))
together (disk.WriteClaim number) first values = what.Claimed true
together disk.WriteClear first values = what.Cleared true
together disk.ReadMail first values = what.MailRead (mail.Read (message_among (messages_among values)))
together (disk.WriteReset other) first values = what.MailWritten other true
together (disk.WriteClose number) first values = what.Closed true

-- the entry of the values that count: fewer than two are a failure
abbrev pub answer_among : DiskOp → List What → What
answer_among op [] = failed op
answer_among op (value ∷ []) = failed op
answer_among op (first ∷ second ∷ more) = together op first (first ∷ second ∷ more)

-- the entry that answers an operation, by its parts and the good images of its node
unfoldable pub answer_of : DiskOp → (ℕ → Part) → (ℕ → Bool) → What
answer_of op parts good = answer_among op (counting op parts good)

-- the good images after an answer: from the answer of its clear on those on which the clear landed and did not fail
abbrev pub good_after : DiskOp → (ℕ → Part) → (ℕ → Bool) → ℕ → Bool
good_after disk.WriteClear parts good image = has_landed (parts image)
good_after disk.ReadHeader parts good image = good image
good_after (disk.ReadSlot other) parts good image = good image
good_after disk.CheckMail parts good image = good image
good_after (disk.WriteClaim number) parts good image = good image
good_after disk.ReadMail parts good image = good image
good_after (disk.WriteReset other) parts good image = good image
good_after (disk.WriteClose number) parts good image = good image

-- the slots after a write of a rank landed on an image
abbrev pub slots_on : ℕ → ℕ → DiskOp → (ℕ → ℕ → Slot) → ℕ → ℕ → Slot
slots_on rank image (disk.WriteClaim number) slots = put_on slots rank image (record { incarnation = number; clean = false })
slots_on rank image (disk.WriteClose number) slots = put_on slots rank image (record { incarnation = number; clean = true })
slots_on rank image disk.ReadHeader slots = slots
slots_on rank image (disk.ReadSlot other) slots = slots
slots_on rank image disk.CheckMail slots = slots
slots_on rank image disk.WriteClear slots = slots
slots_on rank image disk.ReadMail slots = slots
slots_on rank image (disk.WriteReset other) slots = slots

-- the mailboxes after a write of a rank landed on an image
abbrev pub mailboxes_on : ℕ → ℕ → DiskOp → (ℕ → ℕ → Message) → ℕ → ℕ → Message
mailboxes_on rank image disk.WriteClear mailboxes = put_on mailboxes rank image message.Empty
mailboxes_on rank image (disk.WriteReset other) mailboxes = put_on mailboxes other.0 image message.Reset
mailboxes_on rank image disk.ReadHeader mailboxes = mailboxes
mailboxes_on rank image (disk.ReadSlot other) mailboxes = mailboxes
mailboxes_on rank image disk.CheckMail mailboxes = mailboxes
mailboxes_on rank image (disk.WriteClaim number) mailboxes = mailboxes
mailboxes_on rank image disk.ReadMail mailboxes = mailboxes
mailboxes_on rank image (disk.WriteClose number) mailboxes = mailboxes

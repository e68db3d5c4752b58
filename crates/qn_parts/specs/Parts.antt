-- The parts of an operation and the good images of a node as the code keeps them, image 1 first: this project's profile.
use Rattle.std.specs.Prelude.{ℕ, Bool, false, List, [], ◌∷◌, Option, None, Some, ◌-◌, slice_index_or}
use Rattle.qn_model.specs.declared.disk.Message.{Message}
use Rattle.qn_model.specs.declared.disk.Slot.{Slot}
use Rattle.qn_model.specs.declared.entries.What.{What}
use Rattle.qn_model.specs.declared.entries.What.TheVariants as what
use Rattle.qn_model.specs.declared.seen.MailSeen.TheVariants as mail
use Rattle.qn_model.specs.declared.seen.SlotSeen.TheVariants as slot
use Rattle.qn_safety.specs.declared.part.Part.{Part}
use Rattle.qn_safety.specs.declared.part.Part.TheVariants.{Pending}
use Rattle.qn_safety.specs.TripleWorld.{message_among}

-- the part on an image, 1 to 3
abbrev pub part_on : List Part → ℕ → Part
part_on parts image = slice_index_or parts (image - 1) Pending

-- whether an image, 1 to 3, is a good one
abbrev pub is_good_on : List Bool → ℕ → Bool
is_good_on good image = slice_index_or good (image - 1) false

-- the slot of a value, if it is one
abbrev pub slot_in : What → Option Slot
slot_in (what.SlotRead other (slot.Read found)) = Some found
slot_in value = None

-- the message of a value, if it is one
abbrev pub message_in : What → Option Message
message_in (what.MailRead (mail.Read found)) = Some found
message_in (what.MailChecked (mail.Read found)) = Some found
message_in value = None

-- what two messages tell together
abbrev pub stronger : Message → Message → Message
stronger told found = message_among (told ∷ found ∷ [])

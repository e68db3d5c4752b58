use Rattle.std.specs.Prelude.{◌≡◌, ◌≢◌, ◌⊎◌, ◌<◌, ◌+◌, ℕ, true, Option, None, Some, List, [], ◌∷◌, ◌++◌, length, All}
use Rattle.qn_base.specs.declared.calls.Call.{Call}
use Rattle.qn_base.specs.declared.calls.Call.TheVariants.{Read}
use Rattle.qn_base.specs.declared.ids.NodeId.{NodeId}
use Rattle.qn_model.specs.declared.disk.Message.{Message}
use Rattle.qn_model.specs.declared.disk.Slot.{Slot}
use Rattle.qn_model.specs.declared.mailbox.Sender.{Sender}
use Rattle.qn_model.specs.declared.times.Timing.{Timing}
use Rattle.qn_model.specs.Sectors.{slot_place, mail_place, mail_place_1, is_deadly}
use Rattle.qn_sector.specs.Reading.{slot_of, mail_of, mail_of_1}
use Rattle.qn_image.specs.declared.fault.ImageFault.{ImageFault}
use Rattle.qn_image.specs.declared.fault.ImageFault.TheVariants.{Disk, NotImage, UnsafeTiming, DamagedSector}
use Rattle.qn_image.specs.Plans.{reads_first}
use Rattle.qn_image.specs.Versions.{any_header_of, mailbox_place}

-- Which faults each call on an image can answer (this project's profile).

-- the header
abbrev pub IsHeaderFault : ImageFault → Type 0
IsHeaderFault fault = (fault ≡ Disk) ⊎ (fault ≡ NotImage)

-- the line of a rank: its slot or its mailbox
abbrev pub IsLineFault : ℕ → ℕ → ImageFault → Type 0
IsLineFault version rank fault =
    (fault ≡ Disk) ⊎ ((fault ≡ DamagedSector (slot_place rank)) ⊎ (fault ≡ DamagedSector (mailbox_place version rank)))

-- a message
abbrev pub IsMessageFault : ImageFault → Type 0
IsMessageFault fault = fault ≢ UnsafeTiming

-- the creation
abbrev pub IsCreateFault : ImageFault → Type 0
IsCreateFault fault = (fault ≡ Disk) ⊎ (fault ≡ UnsafeTiming)

-- the migration: an image that is none, or a mailbox of version 1 that is none
abbrev pub IsMigrateFault : ImageFault → Type 0
IsMigrateFault fault = (fault ≡ Disk) ⊎ ((fault ≡ NotImage) ⊎ ((rank : ℕ) × (fault ≡ DamagedSector (mail_place_1 rank))))

-- the sector is the slot of a node with another id
abbrev pub IsOthersSlot : NodeId → List ℕ → Type 0
IsOthersSlot id sector = (found : NodeId × Slot) × ((slot_of sector ≡ Some found) × (found.0.0 ≢ id.0))

-- reads of the slots of the ranks from this one on, with what they gave
abbrev pub slot_reads : ℕ → List (List ℕ) → List Call
slot_reads rank [] = []
slot_reads rank (slot ∷ slots) = Read (slot_place rank) slot true ∷ slot_reads (rank + 1) slots

-- a header of version 2 was read and then every slot that it counts, and each is that of another node
pub record FoundNone (id : NodeId) (calls : List Call) : Type 0 where
  pub header : List ℕ
  pub timing : Timing
  pub slots : List (List ℕ)
  pub made : calls ≡ Read 0 header true ∷ slot_reads 0 slots
  pub counted : any_header_of header ≡ Some (2, length slots, timing)
  pub others : All (IsOthersSlot id) slots

-- a message that is not to replace a deadly one: the mailbox was read, which holds this deadly message
pub record FoundDeadly (rank : ℕ) (message held : Message) (calls : List Call) : Type 0 where
  pub mail : List ℕ
  pub by : Option Sender
  pub reads : reads_first message ≡ true
  pub made : calls ≡ Read (mail_place rank) mail true ∷ []
  pub holds : mail_of mail ≡ Some (record { message = held; by = by })
  pub deadly : is_deadly held ≡ true

-- the same, where the sector that was read is no mailbox
pub record FoundNoMailbox (rank : ℕ) (message : Message) (calls : List Call) : Type 0 where
  pub mail : List ℕ
  pub reads : reads_first message ≡ true
  pub made : calls ≡ Read (mail_place rank) mail true ∷ []
  pub none : mail_of mail ≡ None

-- reads of the mailboxes of version 1 of the ranks from this one on, with what they gave
abbrev pub mail_reads : ℕ → List (List ℕ) → List Call
mail_reads rank [] = []
mail_reads rank (mail ∷ mails) = Read (mail_place_1 rank) mail true ∷ mail_reads (rank + 1) mails

-- the sector is a mailbox of version 1
abbrev pub IsMailbox : List ℕ → Type 0
IsMailbox sector = (message : Message) × (mail_of_1 sector ≡ Some message)

-- a header of version 1 was read, and then the mailboxes up to the first that is none, that of this rank
pub record FoundDamaged (rank : ℕ) (calls : List Call) : Type 0 where
  pub header : List ℕ
  pub nodes : ℕ
  pub timing : Timing
  pub mails : List (List ℕ)
  pub damaged : List ℕ
  pub made : calls ≡ Read 0 header true ∷ mail_reads 0 mails ++ Read (mail_place_1 rank) damaged true ∷ []
  pub version_1 : any_header_of header ≡ Some (1, nodes, timing)
  pub before : length mails ≡ rank
  pub counted : rank < nodes
  pub good : All IsMailbox mails
  pub none : mail_of_1 damaged ≡ None

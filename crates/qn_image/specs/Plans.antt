use Rattle.std.specs.Prelude.{ℕ, zero, suc, ◌+◌, ◌==◌, Bool, true, false, List, [], Result, Ok, Err, ok_or, if◌then◌else◌}
use Rattle.qn_base.specs.declared.calls.Call.TheVariants.{Read, Write}
use Rattle.qn_base.specs.declared.ids.NodeId.{NodeId}
use Rattle.qn_base.specs.Calls.{is_failed}
use Rattle.qn_base.specs.Plans.{Plan, Ends, Asks, ◌>>=◌}
use Rattle.qn_io.specs.Answered.{bytes_read}
use Rattle.qn_model.specs.declared.disk.Message.{Message}
use Rattle.qn_model.specs.declared.disk.Message.TheVariants.{Empty, Test, Reset, Off, Exit, Crashdump}
use Rattle.qn_model.specs.declared.disk.Slot.{Slot}
use Rattle.qn_model.specs.declared.mailbox.Mail.{Mail}
use Rattle.qn_model.specs.declared.times.Timing.{Timing}
use Rattle.qn_model.specs.Sectors.{anonymous, slot_place, mail_place, mail_bytes, is_deadly}
use Rattle.qn_sector.specs.Reading.{slot_of}
use Rattle.qn_image.specs.declared.fault.ImageFault.{ImageFault}
use Rattle.qn_image.specs.declared.fault.ImageFault.TheVariants.{Disk, NotImage, DeadlyThere, DamagedSector, UnknownNode}
use Rattle.qn_image.specs.Versions.{any_header_of, mailbox_of, mailbox_place}

-- a read of a sector, which ends with its bytes
abbrev pub read_plan : ℕ → Plan (Result (List ℕ) ImageFault)
read_plan sector = Asks (Read sector [] true) (λ call. Ends (if is_failed call then Err Disk else Ok (bytes_read call)))

-- a write of a sector
abbrev pub put_plan : ℕ → List ℕ → Plan (Result (Unit {0}) ImageFault)
put_plan sector bytes = Asks (Write sector bytes true) (λ call. Ends (if is_failed call then Err Disk else Ok tt))

-- what follows a value; a fault ends the plan
abbrev pub or_fault : {A B : Type 0} → (A → Plan (Result B ImageFault)) → Result A ImageFault → Plan (Result B ImageFault)
or_fault next (Ok value) = next value
or_fault next (Err fault) = Ends (Err fault)

-- sbd(8), `dump`: the header in sector 0, its version first
unfoldable pub header_plan : Plan (Result (ℕ × ℕ × Timing) ImageFault)
header_plan = read_plan 0 >>= or_fault (λ bytes. Ends (ok_or (any_header_of bytes) NotImage))

-- the slot of a rank
unfoldable pub slot_plan : ℕ → Plan (Result (NodeId × Slot) ImageFault)
slot_plan rank =
    read_plan (slot_place rank) >>= or_fault (λ bytes. Ends (ok_or (slot_of bytes) (DamagedSector (slot_place rank))))

-- the mailbox of a rank in an image of that version
unfoldable pub mail_plan : ℕ → ℕ → Plan (Result Mail ImageFault)
mail_plan version rank =
    read_plan (mailbox_place version rank)
    >>= or_fault (λ bytes. Ends (ok_or (mailbox_of version bytes) (DamagedSector (mailbox_place version rank))))

-- sbd(8), `list`: the line of a rank, its slot read first
unfoldable pub line_plan : ℕ → ℕ → Plan (Result (NodeId × Slot × Mail) ImageFault)
line_plan version rank =
    slot_plan rank
    >>= or_fault (λ found. mail_plan version rank >>= or_fault (λ mail. Ends (Ok (found.0, found.1, mail))))

-- this project's profile: a test and an exit are not to replace a deadly message, so the mailbox is read before them
abbrev pub reads_first : Message → Bool
reads_first Empty = false
reads_first Test = true
reads_first Reset = false
reads_first Off = false
reads_first Exit = true
reads_first Crashdump = false

-- the message is written into the mailbox of the rank, and names nobody
abbrev pub write_plan : ℕ → Message → Plan (Result (Unit {0}) ImageFault)
write_plan rank message = put_plan (mail_place rank) (mail_bytes (anonymous message))

-- it replaces the one that the mailbox holds, unless that is deadly
abbrev pub replace_plan : ℕ → Message → Mail → Plan (Result (Unit {0}) ImageFault)
replace_plan rank message held =
    if is_deadly held.message then Ends (Err (DeadlyThere held.message)) else write_plan rank message

-- the message is left in the mailbox of the rank
unfoldable pub send_plan : ℕ → Message → Plan (Result (Unit {0}) ImageFault)
send_plan rank message =
    if reads_first message then mail_plan 2 rank >>= or_fault (replace_plan rank message) else write_plan rank message

-- the slots of so many ranks, from this one on, are read until one has the id, whose mailbox gets the message
unfoldable pub search_plan : NodeId → Message → ℕ → ℕ → Plan (Result (Unit {0}) ImageFault)
search_plan id message rank zero = Ends (Err UnknownNode)
search_plan id message rank (suc left) =
    slot_plan rank
    >>= or_fault (λ found.
    if found.0.0 == id.0 then send_plan rank message
    else search_plan id message (rank + 1) left)

-- sbd(8), `message`: the header says how many ranks there are; only an image of version 2 takes messages
unfoldable pub message_plan : NodeId → Message → Plan (Result (Unit {0}) ImageFault)
message_plan id message =
    header_plan >>= or_fault (λ header. if header.0 == 2 then search_plan id message 0 header.1 else Ends (Err NotImage))

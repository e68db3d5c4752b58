-- The disk operations of a node, as three images are asked for them: this project's profile.
use Rattle.std.specs.Prelude.{ℕ}
use Rattle.qn_model.specs.declared.entries.What.{What}
use Rattle.qn_model.specs.declared.entries.What.TheVariants as what
use Rattle.qn_model.specs.declared.outputs.DiskOp.{DiskOp}
use Rattle.qn_model.specs.declared.outputs.DiskOp.TheVariants as disk
use Rattle.qn_model.specs.Sectors.{mail_place, slot_place}

-- the sector of an operation of the node of that rank
abbrev pub place_of : ℕ → DiskOp → ℕ
place_of me disk.ReadHeader = 0
place_of me (disk.ReadSlot rank) = slot_place rank.0
place_of me disk.CheckMail = mail_place me
place_of me disk.ReadMail = mail_place me
place_of me (disk.WriteClaim number) = slot_place me
place_of me (disk.WriteClose number) = slot_place me
place_of me disk.WriteClear = mail_place me
place_of me (disk.WriteReset rank) = mail_place rank.0

-- the check of a clean start reads the own mailbox, as each later read of it does: all images are good then
abbrev pub read_as : DiskOp → DiskOp
read_as disk.CheckMail = disk.ReadMail
read_as disk.ReadHeader = disk.ReadHeader
read_as (disk.ReadSlot rank) = disk.ReadSlot rank
read_as disk.ReadMail = disk.ReadMail
read_as (disk.WriteClaim number) = disk.WriteClaim number
read_as (disk.WriteClose number) = disk.WriteClose number
read_as disk.WriteClear = disk.WriteClear
read_as (disk.WriteReset rank) = disk.WriteReset rank

-- what was read of a mailbox, as the check of a clean start
abbrev pub checked : What → What
checked (what.MailRead seen) = what.MailChecked seen
checked entry = entry

-- the answer of an operation, by that of the read that is made for it
abbrev pub answer_as : DiskOp → What → What
answer_as disk.CheckMail entry = checked entry
answer_as disk.ReadHeader entry = entry
answer_as (disk.ReadSlot rank) entry = entry
answer_as disk.ReadMail entry = entry
answer_as (disk.WriteClaim number) entry = entry
answer_as (disk.WriteClose number) entry = entry
answer_as disk.WriteClear entry = entry
answer_as (disk.WriteReset rank) entry = entry

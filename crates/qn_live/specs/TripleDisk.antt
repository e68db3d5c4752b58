-- The disk of a node on three images: what one call on one image is on three of them. This project's profile, after sbd(8).
use Rattle.std.specs.Prelude.{ℕ, Bool, true, false, not, ◌+◌, ◌-◌, ◌*◌, ◌/◌, ◌==◌, ◌&&◌, ◌||◌, nat_lt, List, [], ◌∷◌, Option, None, Some, if◌then◌else◌}
use Rattle.std.specs.List.{list_any}
use Rattle.qn_base.specs.declared.calls.Call.{Call}
use Rattle.qn_base.specs.declared.calls.Call.TheVariants as call
use Rattle.qn_base.specs.Calls.{is_failed}
use Rattle.qn_base.specs.Plans.{Plan, Ends, Asks, ◌>>=◌}
use Rattle.qn_io.specs.Answered.{bytes_read}
use Rattle.qn_model.specs.declared.configuration.Settings.{Settings}
use Rattle.qn_model.specs.declared.seen.HeaderSeen.{HeaderSeen}
use Rattle.qn_model.specs.declared.seen.HeaderSeen.TheVariants as header
use Rattle.qn_model.specs.declared.seen.SlotSeen.{SlotSeen}
use Rattle.qn_model.specs.declared.seen.SlotSeen.TheVariants as slot
use Rattle.qn_model.specs.declared.seen.MailSeen.{MailSeen}
use Rattle.qn_model.specs.declared.seen.MailSeen.TheVariants as mail
use Rattle.qn_model.specs.declared.times.Timing.{Timing}
use Rattle.qn_model.specs.declared.entries.What.{What}
use Rattle.qn_model.specs.declared.entries.What.TheVariants as what
use Rattle.qn_model.specs.declared.outputs.DiskOp.{DiskOp}
use Rattle.qn_model.specs.declared.outputs.DiskOp.TheVariants as disk
use Rattle.qn_model.specs.Sectors.{anonymous, header_bytes, mail_bytes, mail_place, slot_bytes, zeros}
use Rattle.qn_model.specs.Unmet.{id_of}
use Rattle.qn_model.specs.Wanted.{rank_of}
use Rattle.qn_model.specs.World.{failed}
use Rattle.qn_sector.specs.Reading.{is_header}
use Rattle.qn_safety.specs.declared.part.Part.{Part}
use Rattle.qn_safety.specs.declared.part.Part.TheVariants.{Pending, Landed, Failed}
use Rattle.qn_safety.specs.TripleWorld.{answer_of, has_failed, needs_good}
use Rattle.qn_parts.specs.Parts.{is_good_on, part_on}
use Rattle.qn_live.specs.Performing.{done}

-- sector s of image K, 1 to 3, has the number 1024 * (K - 1) + s
abbrev pub sector_on : ℕ → ℕ → ℕ
sector_on image sector = 1024 * (image - 1) + sector

-- ## What one image tells

-- the operation that reads a sector: the header, then the slots, and from 512 on the mailboxes, of which a node reads its own
abbrev pub reading : ℕ → DiskOp
reading sector =
    if sector == 0 then disk.ReadHeader
    else (if nat_lt sector 512 then disk.ReadSlot (rank_of ((sector - 1) / 2)) else disk.ReadMail)

-- the bytes that were read are no spelling
abbrev pub is_strange : What → Bool
is_strange (what.Header header.NotImage) = true
is_strange (what.SlotRead rank slot.Damaged) = true
is_strange (what.MailChecked mail.Damaged) = true
is_strange (what.MailRead mail.Damaged) = true
is_strange entry = false

-- what an image tells by an entry: bytes that are no spelling tell nothing
abbrev pub part_of_entry : What → Part
part_of_entry entry = if is_strange entry then Pending else Landed entry

-- the part of a read on an image, by its call
abbrev pub part_of : Settings → DiskOp → Call → Part
part_of s op call = if is_failed call then Failed else part_of_entry (done s op (bytes_read call))

-- an image is read: any, but for the own mailbox a good one alone
abbrev pub is_asked : DiskOp → Bool → Bool
is_asked op good = good || not (needs_good op)

-- a sector is read on an image, where that is asked
unfoldable pub part_plan : Settings → DiskOp → Bool → ℕ → ℕ → Plan Part
part_plan s op asked image sector =
    if asked then Asks (call.Read (sector_on image sector) [] true) (λ call. Ends (part_of s op call)) else Ends Pending

-- a sector is read on the three images, in their order
unfoldable pub parts_plan : Settings → DiskOp → List Bool → ℕ → Plan (List Part)
parts_plan s op good sector =
    part_plan s op (is_asked op (is_good_on good 1)) 1 sector
    >>= (λ one. part_plan s op (is_asked op (is_good_on good 2)) 2 sector
    >>= (λ two. part_plan s op (is_asked op (is_good_on good 3)) 3 sector
    >>= (λ three. Ends (one ∷ two ∷ three ∷ []))))

-- ## What three images tell together

-- two headers are the same
abbrev pub same_times : Timing → Timing → Bool
same_times one other =
    one.watchdog == other.watchdog && one.msgwait == other.msgwait && one.loop_ms == other.loop_ms
    && one.read_limit == other.read_limit && one.feed_delay == other.feed_delay

abbrev pub headers_differ : HeaderSeen → HeaderSeen → Bool
headers_differ (header.Read nodes timing) (header.Read other times) = not (nodes == other && same_times timing times)
headers_differ one other = false

-- the parts are two headers that differ
abbrev pub differ : Part → Part → Bool
differ (Landed (what.Header one)) (Landed (what.Header other)) = headers_differ one other
differ one other = false

abbrev pub some_differ : List Part → Bool
some_differ parts =
    differ (part_on parts 1) (part_on parts 2) || differ (part_on parts 1) (part_on parts 3)
    || differ (part_on parts 2) (part_on parts 3)

-- the entry of a read of bytes that are no spelling; a write has none
abbrev pub strange : DiskOp → What
strange disk.ReadHeader = what.Header header.NotImage
strange (disk.ReadSlot rank) = what.SlotRead rank slot.Damaged
strange disk.CheckMail = what.MailChecked mail.Damaged
strange disk.ReadMail = what.MailRead mail.Damaged
strange (disk.WriteClaim number) = failed (disk.WriteClaim number)
strange (disk.WriteClose number) = failed (disk.WriteClose number)
strange disk.WriteClear = failed disk.WriteClear
strange (disk.WriteReset rank) = failed (disk.WriteReset rank)

-- the entry says that a read failed
abbrev pub is_failed_read : What → Bool
is_failed_read (what.Header header.Failed) = true
is_failed_read (what.SlotRead rank slot.Failed) = true
is_failed_read (what.MailChecked mail.Failed) = true
is_failed_read (what.MailRead mail.Failed) = true
is_failed_read entry = false

-- the entry of three images that do not say enough: a failure where a call failed, else bytes that are no spelling
abbrev pub if_failed : DiskOp → Bool → What → What
if_failed op some_failed entry = if is_failed_read entry && not some_failed then strange op else entry

-- The entry of a read by its parts: that of the world of three images. Where too few parts count, though no call failed, the
-- bytes were no spelling; and headers that differ are none.
abbrev pub read_entry : DiskOp → List Part → List Bool → What
read_entry op parts good =
    if some_differ parts then what.Header header.NotImage
    else if_failed op (list_any has_failed parts) (answer_of op (part_on parts) (is_good_on good))

-- ## One image that says the same

-- the sector of a header, and one that is none
abbrev pub header_sector : HeaderSeen → Option (List ℕ)
header_sector (header.Read nodes timing) = Some (if is_header nodes timing then header_bytes nodes timing else zeros 512)
header_sector header.NotImage = Some (zeros 512)
header_sector header.Failed = None

-- the sector of the slot of a rank
abbrev pub slot_sector : Settings → ℕ → SlotSeen → Option (List ℕ)
slot_sector s rank (slot.Read own) = Some (if (id_of s rank).0 == 0 then zeros 512 else slot_bytes (id_of s rank).0 own)
slot_sector s rank slot.Damaged = Some (zeros 512)
slot_sector s rank slot.Failed = None

-- the sector of the mailbox
abbrev pub mail_sector : MailSeen → Option (List ℕ)
mail_sector (mail.Read message) = Some (mail_bytes (anonymous message))
mail_sector mail.Damaged = Some (zeros 512)
mail_sector mail.Failed = None

-- the sector of one image that says the entry of a read; a failure has none, and neither has an entry of another kind
abbrev pub sector_of : Settings → What → Option (List ℕ)
sector_of s (what.Header seen) = header_sector seen
sector_of s (what.SlotRead rank seen) = slot_sector s rank.0 seen
sector_of s (what.MailChecked seen) = mail_sector seen
sector_of s (what.MailRead seen) = mail_sector seen
sector_of s what.Begin = None
sector_of s what.BeginClean = None
sector_of s (what.Claimed ok) = None
sector_of s (what.Cleared ok) = None
sector_of s (what.MailWritten rank ok) = None
sector_of s (what.View view) = None
sector_of s (what.Ask ask) = None
sector_of s (what.Tell tell) = None
sector_of s (what.Device agrees) = None
sector_of s what.Tick = None
sector_of s (what.Stopped ok) = None
sector_of s what.Leave = None
sector_of s (what.Closed ok) = None

-- the call on one image that reads this sector, or that failed
abbrev pub read_of : ℕ → Option (List ℕ) → Call
read_of sector None = call.Read sector [] false
read_of sector (Some bytes) = call.Read sector bytes true

-- ## A call of one image on three

-- what a call on one image tells where three were made, and the good images then
abbrev pub Told : Type 0
Told = Call × List Bool

-- a read of a sector
unfoldable pub read_plan : Settings → List Bool → ℕ → Plan Told
read_plan s good sector =
    parts_plan s (reading sector) good sector
    >>= (λ parts. Ends (read_of sector (sector_of s (read_entry (reading sector) parts good)), good))

-- a sector is written on an image: whether it was
unfoldable pub image_plan : ℕ → ℕ → List ℕ → Plan Bool
image_plan image sector bytes = Asks (call.Write (sector_on image sector) bytes true) (λ call. Ends (not (is_failed call)))

-- a sector is written on the three images, in their order
unfoldable pub images_plan : ℕ → List ℕ → Plan (List Bool)
images_plan sector bytes =
    image_plan 1 sector bytes
    >>= (λ one. image_plan 2 sector bytes
    >>= (λ two. image_plan 3 sector bytes
    >>= (λ three. Ends (one ∷ two ∷ three ∷ []))))

-- at least two of the images
abbrev pub is_majority : List Bool → Bool
is_majority on =
    is_good_on on 1 && is_good_on on 2 || is_good_on on 1 && is_good_on on 3 || is_good_on on 2 && is_good_on on 3

-- the good images after a write: the own mailbox is written by the clear alone, and from then on those are good on which it was
-- done
abbrev pub good_after_write : ℕ → ℕ → List Bool → List Bool → List Bool
good_after_write me sector written good = if sector == mail_place me then written else good

-- a write of a sector: it is done where at least two images have it
unfoldable pub write_plan : ℕ → List Bool → ℕ → List ℕ → Plan Told
write_plan me good sector bytes =
    images_plan sector bytes
    >>= (λ written. Ends (call.Write sector bytes (is_majority written), good_after_write me sector written good))

-- any other call is made once
abbrev pub once : List Bool → Call → Plan Told
once good question = Asks question (λ call. Ends (call, good))

-- a call on one image, on three
abbrev pub call_plan : Settings → ℕ → List Bool → Call → Plan Told
call_plan s me good (call.Read sector bytes ok) = read_plan s good sector
call_plan s me good (call.Write sector bytes ok) = write_plan me good sector bytes
call_plan s me good (call.Now tick) = once good (call.Now tick)
call_plan s me good (call.Receive got) = once good (call.Receive got)
call_plan s me good (call.Feed ok) = once good (call.Feed ok)
call_plan s me good (call.Start ok) = once good (call.Start ok)
call_plan s me good (call.Stop ok) = once good (call.Stop ok)
call_plan s me good (call.Send to bytes ok) = once good (call.Send to bytes ok)
call_plan s me good (call.Disarm ok) = once good (call.Disarm ok)
call_plan s me good (call.Halt code) = once good (call.Halt code)
call_plan s me good (call.OpenImage path ok) = once good (call.OpenImage path ok)
call_plan s me good (call.OpenNode images image watchdog resource port rank ok) =
    once good (call.OpenNode images image watchdog resource port rank ok)

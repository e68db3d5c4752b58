-- The world of three images that a joint is of: the events that happened in it. This project's profile.
use Rattle.std.specs.Prelude.{◌≡◌, ◌<◌, ℕ, zero, suc, Bool, true, false, ◌==◌, List, [], ◌∷◌, length, ◌⊎◌}
use Rattle.qn_base.specs.declared.calls.Call.{Call}
use Rattle.qn_base.specs.declared.calls.Call.TheVariants as call
use Rattle.qn_base.specs.Calls.{blank, is_failed}
use Rattle.qn_base.specs.Plans as plans
use Rattle.qn_base.specs.Plans.{Plan, question}
use Rattle.qn_io.specs.Answered.{bytes_read}
use Rattle.qn_model.specs.declared.configuration.Settings.{Settings}
use Rattle.qn_model.specs.declared.disk.Message.{Message}
use Rattle.qn_model.specs.declared.disk.Slot.{Slot}
use Rattle.qn_model.specs.declared.times.Timing.{Timing}
use Rattle.qn_model.specs.declared.entries.What.{What}
use Rattle.qn_model.specs.declared.entries.What.TheVariants as what
use Rattle.qn_model.specs.declared.outputs.DiskOp.{DiskOp}
use Rattle.qn_model.specs.declared.outputs.DiskOp.TheVariants as disk
use Rattle.qn_model.specs.declared.seen.HeaderSeen.TheVariants as header
use Rattle.qn_model.specs.declared.seen.MailSeen.TheVariants as mail
use Rattle.qn_model.specs.declared.seen.SlotSeen.TheVariants as slot
use Rattle.qn_parts.specs.Parts.{is_good_on, part_on}
use Rattle.qn_safety.specs.declared.part.Part.{Part}
use Rattle.qn_safety.specs.declared.part.Part.TheVariants.{Pending}
use Rattle.qn_safety.specs.TripleNumbers.{is_two}
use Rattle.qn_safety.specs.TripleRules.{is_image}
use Rattle.qn_safety.specs.TripleWorld.{answer_of, good_after}
use Rattle.qn_live.specs.Performing.{disk_answer, disk_call, done}
use Rattle.qn_live.specs.TripleDisk.{Told, call_plan, part_of, sector_on}
use Rattle.qn_live.specs.TripleRuns.{all_good}
use Rattle.qn_safety.specs.NodeLogs.{IsOperation}
use Rattle.qn_joined.specs.Joints.{FitsImage}

-- what each image told, and the list of them, image 1 first
pub record ToldBy : Type 0 where
  pub one : Part
  pub two : Part
  pub three : Part

abbrev pub all_told : ToldBy → List Part
all_told told = told.one ∷ told.two ∷ told.three ∷ []

-- the image after which so many follow, and what is told once it told this
abbrev pub image_before : ℕ → ℕ
image_before zero = 3
image_before (suc zero) = 2
image_before (suc (suc more)) = 1

abbrev pub told_also : ℕ → Part → ToldBy → ToldBy
told_also zero part told = record told { three = part }
told_also (suc zero) part told = record told { two = part }
told_also (suc (suc more)) part told = record told { one = part }

-- the call on one image, on an image
abbrev pub on_image : ℕ → Call → Call
on_image image (call.Read sector bytes ok) = call.Read (sector_on image sector) bytes ok
on_image image (call.Write sector bytes ok) = call.Write (sector_on image sector) bytes ok
on_image image other = other

-- the value is one that the sector of an operation holds in a world
abbrev pub IsHeld : Settings → Timing → DiskOp → What → Type 0
IsHeld s t disk.ReadHeader value = value ≡ what.Header (header.Read (length s.nodes) t)
IsHeld s t (disk.ReadSlot other) value = (own : Slot) × (value ≡ what.SlotRead other (slot.Read own))
IsHeld s t disk.CheckMail value = (found : Message) × (value ≡ what.MailChecked (mail.Read found))
IsHeld s t disk.ReadMail value = (found : Message) × (value ≡ what.MailRead (mail.Read found))
IsHeld s t (disk.WriteClaim number) value = Unit {0}
IsHeld s t (disk.WriteClose number) value = Unit {0}
IsHeld s t disk.WriteClear value = Unit {0}
IsHeld s t (disk.WriteReset other) value = Unit {0}

-- a call of an operation on an image failed, or it gave what its sector holds
abbrev pub IsHonest : Settings → Timing → DiskOp → Call → Type 0
IsHonest s t op made = (is_failed made ≡ true) ⊎ ((is_failed made ≡ false) × IsHeld s t op (done s op (bytes_read made)))

-- the call on one image returns with what the images told together, which is the answer of the world
pub record IsAnswered (s : Settings) (rank number : ℕ) (op : DiskOp) (good : List Bool) (by : ToldBy) (told : Told) : Type 0 where
  pub call : blank told.0 ≡ disk_call s rank number op
  pub answer : disk_answer s op told.0 ≡ answer_of op (part_on (all_told by)) (is_good_on good)
  pub goods : (image : ℕ) → is_image image ≡ true
      → is_good_on told.1 image ≡ good_after op (part_on (all_told by)) (is_good_on good) image
  pub three : told.1 ≡ is_good_on told.1 1 ∷ is_good_on told.1 2 ∷ is_good_on told.1 3 ∷ []

-- what is left of an operation where so many images may still be asked, and these told that
abbrev pub IsLeft : Settings → Timing → ℕ → ℕ → DiskOp → List Bool → ℕ → ToldBy → Plan Told → Type 0
IsLeft s t rank number op good zero by plan =
    (told : Told) × (plan ≡ plans.Ends told) × IsAnswered s rank number op good by told
IsLeft s t rank number op good (suc images) by plan =
    IsLeft s t rank number op good images by plan
    ⊎ ((more : Call → Plan Told)
    × (plan ≡ plans.Asks (on_image (image_before images) (disk_call s rank number op)) more)
    × ((made : Call)
    → blank made ≡ on_image (image_before images) (disk_call s rank number op)
    → IsHonest s t op made
    → IsLeft s t rank number op good images (told_also images (part_of s op made) by) (more made)))

abbrev pub none_told : ToldBy
none_told = record { one = Pending; two = Pending; three = Pending }

-- the good images are three, and enough of them for an operation: a node resets another one, and not itself
abbrev pub IsEnough : ℕ → DiskOp → List Bool → Type 0
IsEnough rank disk.ReadMail good = is_two (is_good_on good) ≡ true
IsEnough rank disk.CheckMail good = good ≡ all_good
IsEnough rank (disk.WriteReset other) good = (other.0 == rank) ≡ false
IsEnough rank disk.ReadHeader good = Unit {0}
IsEnough rank (disk.ReadSlot other) good = Unit {0}
IsEnough rank (disk.WriteClaim number) good = Unit {0}
IsEnough rank (disk.WriteClose number) good = Unit {0}
IsEnough rank disk.WriteClear good = Unit {0}

-- The calls of each operation on three images, whatever each of them answers, end with the answer that the world of three images
-- gives: a read on an image fails, or gives what its sector holds; a write fails there, or is done.
abbrev pub CallsAnswer : Settings → Timing → Type 0
CallsAnswer s t =
    (rank number : ℕ) (op : DiskOp) (good : List Bool) (x y z : Bool)
    → FitsImage s t
    → rank < length s.nodes
    → IsOperation s op
    → good ≡ x ∷ y ∷ z ∷ []
    → IsEnough rank op good
    → IsLeft s t rank number op good 3 none_told (call_plan s rank good (disk_call s rank number op))

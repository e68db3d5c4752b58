-- What a running node on three images that waits for a call stands for: what is left of its run. This project's profile.
use Rattle.std.specs.Prelude.{◌≡◌, ℕ, Bool, true, false, ◌+◌, ◌*◌, ◌-◌, List, [], ◌∷◌, Some}
use Rattle.std.specs.Option.{option_map_or}
use Rattle.qn_base.specs.declared.calls.Call.{Call}
use Rattle.qn_base.specs.declared.calls.Call.TheVariants as call
use Rattle.qn_base.specs.Calls.{blank}
use Rattle.qn_base.specs.Plans.{Plan, Ends, ◌>>=◌, left, question}
use Rattle.qn_model.specs.declared.configuration.Settings.{Settings}
use Rattle.qn_model.specs.declared.outputs.DiskOp.{DiskOp}
use Rattle.qn_model.specs.World.{is_write}
use Rattle.qn_safety.specs.declared.part.Part.{Part}
use Rattle.qn_parts.specs.Parts.{is_good_on}
use Rattle.qn_live.specs.declared.asked.Asked.{Asked}
use Rattle.qn_live.specs.declared.asked.Asked.TheVariants as asked
use Rattle.qn_live.specs.declared.asked.Given.{Given}
use Rattle.qn_live.specs.declared.asked.Room.{Room}
use Rattle.qn_live.specs.Asking.{Tells}
use Rattle.qn_live.specs.Machine.{RunFor, operation_of, work}
use Rattle.qn_live.specs.Running.{Ran}
use Rattle.qn_live.specs.declared.told.Reads.{Reads}
use Rattle.qn_live.specs.declared.told.Reads.TheVariants as reads
use Rattle.qn_live.specs.declared.told.Writes.{Writes}
use Rattle.qn_live.specs.declared.told.Writes.TheVariants as writes
use Rattle.qn_live.specs.declared.triple_run.TripleRun.{TripleRun}
use Rattle.qn_live.specs.TripleDisk.{Told, good_after_write, image_plan, images_plan, is_asked, is_majority, once, part_plan, parts_plan, read_entry, read_of, reading, sector_of, sector_on}
use Rattle.qn_live.specs.TripleLaws.{IsTold}
use Rattle.qn_live.specs.TripleOperations.{read_as}
use Rattle.qn_live.specs.TripleRuns.{on_three}

-- the image that is read next, and the one that is written next
abbrev pub image_of_read : Reads → ℕ
image_of_read reads.Nothing = 1
image_of_read (reads.One one) = 2
image_of_read (reads.Two one two) = 3

abbrev pub image_of_write : Writes → ℕ
image_of_write writes.Nothing = 1
image_of_write (writes.One one) = 2
image_of_write (writes.Two one two) = 3

-- the call on one image as that on the image that comes next
abbrev pub on_image : Reads → Writes → Asked → Asked
on_image told written (asked.Read sector) = asked.Read (sector_on (image_of_read told) sector)
on_image told written (asked.Write sector) = asked.Write (sector_on (image_of_write written) sector)
on_image told written asked.Receive = asked.Receive
on_image told written asked.Now = asked.Now
on_image told written asked.Feed = asked.Feed
on_image told written asked.Start = asked.Start
on_image told written asked.Stop = asked.Stop
on_image told written (asked.Send to) = asked.Send to
on_image told written asked.Disarm = asked.Disarm
on_image told written (asked.Halt code) = asked.Halt code

-- ## What is left of a disk operation

-- the parts of a read that are to come, after what the images told
abbrev pub parts_left : Settings → DiskOp → List Bool → ℕ → Reads → Plan (List Part)
parts_left s op good sector reads.Nothing = parts_plan s op good sector
parts_left s op good sector (reads.One one) =
    part_plan s op (is_asked op (is_good_on good 2)) 2 sector
    >>= (λ two. part_plan s op (is_asked op (is_good_on good 3)) 3 sector
    >>= (λ three. Ends (one ∷ two ∷ three ∷ [])))
parts_left s op good sector (reads.Two one two) =
    part_plan s op (is_asked op (is_good_on good 3)) 3 sector >>= (λ three. Ends (one ∷ two ∷ three ∷ []))

-- the images that are to be written, after those that were
abbrev pub images_left : ℕ → List ℕ → Writes → Plan (List Bool)
images_left sector bytes writes.Nothing = images_plan sector bytes
images_left sector bytes (writes.One one) =
    image_plan 2 sector bytes >>= (λ two. image_plan 3 sector bytes >>= (λ three. Ends (one ∷ two ∷ three ∷ [])))
images_left sector bytes (writes.Two one two) = image_plan 3 sector bytes >>= (λ three. Ends (one ∷ two ∷ three ∷ []))

-- what three images told of a read, and of a write
abbrev pub read_told : Settings → DiskOp → List Bool → ℕ → List Part → Plan Told
read_told s op good sector parts = Ends (read_of sector (sector_of s (read_entry op parts good)), good)

abbrev pub write_told : ℕ → List Bool → ℕ → List ℕ → List Bool → Plan Told
write_told me good sector bytes written =
    Ends (call.Write sector bytes (is_majority written), good_after_write me sector written good)

-- a call of one image on three, after what the images told
abbrev pub call_left : Settings → ℕ → List Bool → Reads → Writes → Call → Plan Told
call_left s me good told written (call.Read sector bytes ok) =
    parts_left s (reading sector) good sector told >>= read_told s (reading sector) good sector
call_left s me good told written (call.Write sector bytes ok) =
    images_left sector bytes written >>= write_told me good sector bytes
call_left s me good told written (call.Now tick) = once good (call.Now tick)
call_left s me good told written (call.Receive got) = once good (call.Receive got)
call_left s me good told written (call.Feed ok) = once good (call.Feed ok)
call_left s me good told written (call.Start ok) = once good (call.Start ok)
call_left s me good told written (call.Stop ok) = once good (call.Stop ok)
call_left s me good told written (call.Send to bytes ok) = once good (call.Send to bytes ok)
call_left s me good told written (call.Disarm ok) = once good (call.Disarm ok)
call_left s me good told written (call.Halt code) = once good (call.Halt code)
call_left s me good told written (call.OpenImage path ok) = once good (call.OpenImage path ok)
call_left s me good told written (call.OpenNode images image watchdog resource port rank ok) =
    once good (call.OpenNode images image watchdog resource port rank ok)

-- ## What is left of the run

-- the run goes on as one image would have answered
abbrev pub goes_on : Settings → ℕ → Plan Ran → Told → Plan Ran
goes_on s me one answered = on_three s me answered.1 (left one answered.0)

-- what is left on three images, by what is left on one
abbrev pub left_on_three : Settings → ℕ → List Bool → Reads → Writes → Plan Ran → Plan Ran
left_on_three s me good told written one =
    option_map_or
    (λ asked. call_left s me good told written asked >>= goes_on s me one)
    (question one)
    (on_three s me good one)

-- what is left once the next image told this of a read
abbrev pub read_on : Settings → ℕ → List Bool → Reads → Plan Ran → DiskOp → ℕ → Part → Plan Ran
read_on s me good reads.Nothing one op sector part =
    (parts_left s op good sector (reads.One part) >>= read_told s op good sector) >>= goes_on s me one
read_on s me good (reads.One first) one op sector part =
    (parts_left s op good sector (reads.Two first part) >>= read_told s op good sector) >>= goes_on s me one
read_on s me good (reads.Two first second) one op sector part =
    goes_on s me one (read_of sector (sector_of s (read_entry op (first ∷ second ∷ part ∷ []) good)), good)

-- what is left once the next image was written, or was not
abbrev pub written_on : Settings → ℕ → List Bool → Writes → Plan Ran → ℕ → List ℕ → Bool → Plan Ran
written_on s me good writes.Nothing one sector bytes done =
    (images_left sector bytes (writes.One done) >>= write_told me good sector bytes) >>= goes_on s me one
written_on s me good (writes.One first) one sector bytes done =
    (images_left sector bytes (writes.Two first done) >>= write_told me good sector bytes) >>= goes_on s me one
written_on s me good (writes.Two first second) one sector bytes done =
    goes_on s me one (
      call.Write sector bytes (is_majority (first ∷ second ∷ done ∷ [])),
      good_after_write me sector (first ∷ second ∷ done ∷ []) good,
    )

-- what was told of a read is what images can tell
abbrev pub AreTold : Settings → DiskOp → Reads → Type 0
AreTold s op reads.Nothing = Unit {0}
AreTold s op (reads.One one) = IsTold s op one
AreTold s op (reads.Two one two) = IsTold s op one × IsTold s op two

-- the machine stands for the plan, or for one that an image would have to tell nothing of
pub record Stands (run : TripleRun) (plan : Plan Ran) : Type 0 where
  pub one : Plan Ran
  pub runs : RunFor run.run one
  pub told : (op : DiskOp) → operation_of run.run ≡ Some op → is_write op ≡ false
      → AreTold run.run.settings (read_as op) run.reads
  pub is_left : plan ≡ left_on_three run.run.settings run.run.me.0 run.good run.reads run.writes one

abbrev pub IsStanding : TripleRun → Type 0
IsStanding run = (plan : Plan Ran) × Stands run plan

-- the image that is read next for an operation is one that is asked
abbrev pub is_next_asked : DiskOp → List Bool → Reads → Bool
is_next_asked op good told = is_asked (read_as op) (is_good_on good (image_of_read told))

-- the machine stands for the plan: this is left of its run
pub record TripleRunFor (run : TripleRun) (plan : Plan Ran) : Type 0 where
  pub stands : Stands run plan
  pub settled : (op : DiskOp) → operation_of run.run ≡ Some op → is_write op ≡ false
      → is_next_asked op run.good run.reads ≡ true

abbrev pub IsUnderWay : TripleRun → Type 0
IsUnderWay run = (plan : Plan Ran) × TripleRunFor run plan

-- the call that was asked for gave this answer
abbrev pub IsAnswered : TripleRun → Given → Room → Type 0
IsAnswered run given room =
    (plan : Plan Ran) × TripleRunFor run plan × (call : Call) × Tells call given room × (question plan ≡ Some (blank call))

-- at most so many calls the machine still makes, and answers it still takes
abbrev pub calls_left : ℕ → Reads → Writes → ℕ
calls_left more told written = 5 * more + (3 - image_of_read told) + (3 - image_of_write written)

abbrev pub triple_work : TripleRun → ℕ
triple_work run = calls_left (work run.run) run.reads run.writes

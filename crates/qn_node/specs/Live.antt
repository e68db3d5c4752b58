-- A node that takes part in the cluster, and the log that it stands for: this project's profile.
use Rattle.std.specs.Prelude.{◌≡◌, ℕ, Bool, true, false, List, ◌∷◌, Option, None, Some, ◌&&◌, is_some, not, if◌then◌else◌}
use Rattle.qn_model.specs.declared.configuration.Settings.{Settings}
use Rattle.qn_model.specs.declared.disk.Message.{Message}
use Rattle.qn_model.specs.declared.entries.What.{What}
use Rattle.qn_model.specs.declared.entries.What.TheVariants as what
use Rattle.qn_model.specs.declared.life.Phase.{Phase}
use Rattle.qn_model.specs.declared.life.Phase.TheVariants.{Up, Leaving}
use Rattle.qn_model.specs.declared.life.Why.{Why}
use Rattle.qn_model.specs.declared.life.Why.TheVariants as why
use Rattle.qn_model.specs.declared.outputs.DiskOp.{DiskOp}
use Rattle.qn_model.specs.declared.outputs.DiskOp.TheVariants as disk
use Rattle.qn_model.specs.declared.outputs.Out.{Out}
use Rattle.qn_model.specs.declared.votes.Answer.{Answer}
use Rattle.qn_model.specs.Log.{Line, ask_place, claim_of, claimed, disk_of, incarnation, is_answer, op_out, timing}
use Rattle.qn_model.specs.Phases.{deadly_of, in_time, is_leaving, message_of, next_phase, phase}
use Rattle.qn_model.specs.Fitting.{answers_op, is_closed, is_for, is_own_view}
use Rattle.qn_model.specs.NodeOutputs.{mail_feeds, taken_in}
use Rattle.qn_model.specs.Unmet.{id_of, lacks_of_others, or_else, other_chosen}
use Rattle.qn_fence.specs.declared.fencing.Want.{Want}
use Rattle.qn_fence.specs.declared.fencing.Want.TheVariants as want
use Rattle.qn_fence.specs.Fence.{FenceFor}
use Rattle.qn_heard.specs.Heard.{HeardBefore, HeardFor}
use Rattle.qn_watch.specs.Watch.{WatchFor}
use Rattle.qn_node.specs.declared.live.Live.{Live}
use Rattle.qn_node.specs.declared.live.Course.{Course}
use Rattle.qn_node.specs.declared.live.Course.TheVariants as course
use Rattle.qn_node.specs.Resource.{ResourceFor, is_held, is_stopping}

-- the phase of a node that takes part
abbrev pub live_phase : Bool → Phase
live_phase leaving = if leaving then Leaving else Up

-- an operation that is no step of a boot, or none
abbrev pub is_live_op : Option DiskOp → Bool
is_live_op None = true
is_live_op (Some disk.ReadHeader) = false
is_live_op (Some (disk.ReadSlot rank)) = true
is_live_op (Some disk.CheckMail) = false
is_live_op (Some (disk.WriteClaim number)) = false
is_live_op (Some disk.WriteClear) = false
is_live_op (Some disk.ReadMail) = true
is_live_op (Some (disk.WriteReset rank)) = true
is_live_op (Some (disk.WriteClose number)) = true

-- an entry that only a boot takes
abbrev pub is_boot_entry : What → Bool
is_boot_entry what.Begin = true
is_boot_entry what.BeginClean = true
is_boot_entry (what.Header seen) = true
is_boot_entry (what.MailChecked seen) = true
is_boot_entry (what.Claimed ok) = true
is_boot_entry (what.Cleared ok) = true
is_boot_entry (what.SlotRead rank seen) = false
is_boot_entry (what.MailRead seen) = false
is_boot_entry (what.MailWritten rank ok) = false
is_boot_entry (what.View view) = false
is_boot_entry (what.Ask ask) = false
is_boot_entry (what.Tell tell) = false
is_boot_entry (what.Device agrees) = false
is_boot_entry what.Tick = false
is_boot_entry (what.Stopped ok) = false
is_boot_entry what.Leave = false
is_boot_entry (what.Closed ok) = false

-- whether an entry fits a node that takes part, by what it keeps
abbrev pub fits_live : Settings → ℕ → Live → What → Bool
fits_live s me live what.Begin = false
fits_live s me live what.BeginClean = false
fits_live s me live (what.View view) = is_own_view s me view
fits_live s me live (what.Ask ask) = is_for s me ask.from ask.to
fits_live s me live (what.Tell tell) = is_for s me tell.from tell.to
fits_live s me live (what.Device agrees) = true
fits_live s me live what.Tick = true
fits_live s me live (what.Stopped ok) = is_stopping live.resource
fits_live s me live what.Leave = not live.leaving
fits_live s me live (what.Header seen) = answers_op live.op (what.Header seen)
fits_live s me live (what.SlotRead rank seen) = answers_op live.op (what.SlotRead rank seen)
fits_live s me live (what.MailChecked seen) = answers_op live.op (what.MailChecked seen)
fits_live s me live (what.Claimed ok) = answers_op live.op (what.Claimed ok)
fits_live s me live (what.Cleared ok) = answers_op live.op (what.Cleared ok)
fits_live s me live (what.MailRead seen) = answers_op live.op (what.MailRead seen)
fits_live s me live (what.MailWritten rank ok) = answers_op live.op (what.MailWritten rank ok)
fits_live s me live (what.Closed ok) = answers_op live.op (what.Closed ok)

-- how a step goes on, by the message that kills, if there is one
abbrev pub course_by : Option Message → Bool → Bool → Bool → Course
course_by (Some message) closed feeds leaving = course.Halt message
course_by None closed feeds leaving = if closed then course.End else course.Act feeds leaving

-- how the step of a node that takes part goes on, for an entry as it was read
abbrev pub course_of : Settings → List Line → ℕ → What → Course
course_of s past tick entry =
    course_by (deadly_of (message_of entry)) (is_closed entry) (mail_feeds tick past entry)
    (is_leaving (next_phase s entry (in_time tick past) (phase s past)))

-- the first condition that blocks a start of a node that is up, by whether it holds, whether it has no view, the
-- count, and what blocks a start once it is quorate
abbrev pub unmet_by : Bool → Bool → Answer → Why → Why
unmet_by held viewless count rest =
    if held then why.Holding
    else (if viewless then why.NoView
    else (if not count.released then why.WaitForAll
    else (if not count.quorate then why.NotQuorate count.votes count.quorum else rest)))

-- the next disk operation, by what a node keeps and what the cores say
abbrev pub wanted_by : Live → Bool → Bool → Option DiskOp → Option DiskOp
wanted_by live due fences fencing =
    if is_some live.op then None
    else (if due then Some disk.ReadMail
    else (if live.leaving && not (is_held live.resource) then Some (disk.WriteClose live.incarnation)
    else (if fences then fencing else None)))

-- whether the fencing waits: it wants a reset of a rank whose fence delay is not over
abbrev pub must_wait : (ℕ → Bool) → Want → Bool
must_wait is_over want.None = false
must_wait is_over (want.ReadSlot rank) = false
must_wait is_over (want.WriteReset rank) = not (is_over rank.0)

-- what blocks a start of a node that is up and quorate
abbrev pub lacks : Settings → ℕ → List Line → ℕ → Why
lacks s me log tick =
    or_else (other_chosen s me log) (λ rank. why.NotChosen (id_of s rank)) (lacks_of_others s me log tick)

-- the log with an entry as it was read, and these outputs
abbrev pub with_outs : List Line → ℕ → What → List Out → List Line
with_outs past tick entry outs =
    record { tick = tick; what = entry; asked = (if is_answer entry then ask_place past else 0); outs = outs } ∷ past

-- a node that takes part stands for a log
pub record LiveFor (live : Live) (s : Settings) (me : ℕ) (log : List Line) : Type 0 where
  pub phases : phase s log ≡ live_phase live.leaving
  pub loops : (timing log).loop_ms ≡ live.loop_ms
  pub claims : claimed log ≡ Some live.incarnation
  pub knows : incarnation log ≡ Some live.incarnation
  pub is_out : op_out log ≡ live.op
  pub no_boot : is_live_op live.op ≡ true
  pub has_resource : ResourceFor live.resource log
  pub watches : WatchFor live.watch log
  pub fences : FenceFor live.fence s log
  pub hears : HeardFor live.heard s me log

-- a node has taken in an entry as it was read, and its outputs are still to come
pub record LiveTook (live : Live) (s : Settings) (me : ℕ) (past : List Line) (tick : ℕ) (entry : What) : Type 0 where
  pub phases : phase s (taken_in past tick entry) ≡ live_phase live.leaving
  pub loops : (timing past).loop_ms ≡ live.loop_ms
  pub claims : claimed past ≡ Some live.incarnation
  pub is_out : op_out (taken_in past tick entry) ≡ live.op
  pub no_boot : is_live_op live.op ≡ true
  pub plain : is_boot_entry entry ≡ false
  pub has_resource : ResourceFor live.resource (taken_in past tick entry)
  pub watches : WatchFor live.watch past
  pub fences : FenceFor live.fence s (taken_in past tick entry)
  pub hears : (line : Line) → line.tick ≡ tick → line.what ≡ entry → claim_of (disk_of line.outs) ≡ None → HeardBefore live.heard s me (line ∷ past)

-- `status`: what stands after the last event of a schedule; this project's profile.
use Rattle.std.specs.Prelude.{◌≡◌, ◌≢◌, ◌≤◌, ℕ, List, [], ◌∷◌, ◌++◌, Option, Some, IfSome, length}
use Rattle.std.specs.Io.KnownBytes.{prepend_known}
use Rattle.qn_io.specs.declared.buffered.TheConstants.{PIECE}
use Rattle.qn_model.specs.declared.configuration.Settings.{Settings}
use Rattle.qn_model.specs.Lines.{Ended, Ending, Outcome}
use Rattle.qn_model.specs.World.{World}
use Rattle.qn_playback.specs.Worlds.{Progress}
use Rattle.qn_replay.specs.Replay.{replay_of}
use Rattle.qn_sched.specs.declared.replay_end.ReplayEnd.{ReplayEnd}
use Rattle.qn_sched.specs.declared.replay_end.ReplayEnd.TheVariants as end
use Rattle.qn_status.specs.StatusJson.{status_json}
use Rattle.qn_status.specs.StatusText.{status_text}
use Rattle.qn_commands.specs.declared.fault.Fault.TheVariants as fault
use Rattle.qn_commands.specs.declared.status.Status.TheVariants.{Done, BadConf, BadSchedule, NotAllowed, ReadFault, WriteFault, UnsafeTiming, NoMemory}
use Rattle.qn_commands.specs.Endings.{AnswersWhole, Refuses, Says}
use Rattle.qn_commands.specs.Reads.{Completes, EndsAs, IsCutOff, IsNeeded, IsOver}
use Rattle.qn_commands.specs.Seen.{Output, ReadFails, Seen, WriteFails}
use Rattle.qn_commands.specs.Statuses.{HasCauses, IsOneOf}
use Rattle.qn_top.specs.declared.command.Form.{Form}
use Rattle.qn_top.specs.declared.command.Form.TheVariants.{Text, Json}
use Rattle.qn_top.specs.ReplayEnds.{end_outcome}

-- the status of the nodes of a world, in a form
abbrev pub status_in : Form → Settings → World → List ℕ
status_in Text s w = status_text s w
status_in Json s w = status_json s w

-- the status after a schedule that is good to its end, or else the fault line alone
abbrev pub status_behind : Form → ReplayEnd → Option (Progress World) → Outcome
status_behind form (end.Done events) (Some last) = record { text = status_in form last.settings last.world; status = 0 }
status_behind form end last = end_outcome end

-- all that `status` writes for an input, and its exit status
abbrev pub status_answer : Form → Ending → List ℕ → Outcome
status_answer form ending bytes = status_behind form (replay_of ending bytes).end (replay_of ending bytes).last

-- the status of a world was written, or it ran out of memory
pub data StatesWorld (form : Form) (s : Settings) (w : World) (before later : Output) (status : ℕ) : Type 0 where
  Stated : Says (status_in form s w) 0 before later status → StatesWorld form s w before later status
  Unstated : Refuses fault.NoMemory before later status → StatesWorld form s w before later status

-- the text that the taken bytes tell of was written, or a prefix of it where the sink failed; or it ran out of memory
pub data StatusEnds (form : Form) (taken : List ℕ) (at_end failed : Type 0) (before later : Output) (status : ℕ) : Type 0 where
  Told : EndsAs (status_answer form) taken [] at_end failed before later status → StatusEnds form taken at_end failed before later status
  Wanted : Refuses fault.NoMemory before later status → StatusEnds form taken at_end failed before later status

-- Bytes were taken, none more than the end needs, and they decided it. What was read after them is of one piece, waits, and
-- was not looked at.
pub record RunsStatus (form : Form) (before later : Seen) (status : ℕ) : Type 0 where
  pub taken : List ℕ
  pub waiting : List ℕ
  pub takes : before.input.left ≡ prepend_known (taken ++ waiting) later.input.left
  pub needed : IsNeeded (status_answer form) taken
  pub within : length waiting ≤ PIECE
  pub ends : StatusEnds form taken (IsOver waiting later.input) (IsCutOff waiting before.input later.input)
      before.output later.output status

-- The status after the schedule was written, or its fault line alone: of the whole input where nothing failed and memory
-- sufficed, and at status 0.
pub record States (form : Form) (before later : Seen) (status : ℕ) : Type 0 where
  pub ran : RunsStatus form before later status
  pub complete : status ≢ 11 → ¬ ReadFails before.input later.input
      → ¬ WriteFails before.output later.output → IfSome before.input.left
      (λ bytes. AnswersWhole (status_answer form Ended bytes) before.output later.output status)
  pub done : status ≡ 0 → Completes (status_answer form) before later
  pub statuses : IsOneOf (Done ∷ BadConf ∷ BadSchedule ∷ NotAllowed ∷ ReadFault ∷ WriteFault
      ∷ UnsafeTiming ∷ NoMemory ∷ []) status
  pub causes : HasCauses before later status

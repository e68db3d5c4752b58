-- A command that plays a schedule and writes its trace, and then its last line; this project's profile.
use Rattle.std.specs.Prelude.{◌≡◌, ◌≢◌, ◌≤◌, ℕ, List, [], ◌∷◌, ◌++◌, Option, IfSome, length}
use Rattle.std.specs.Io.KnownBytes.{append_known, prepend_known}
use Rattle.qn_io.specs.declared.buffered.TheConstants.{PIECE}
use Rattle.qn_io.specs.Writes.{AppendsFront}
use Rattle.qn_model.specs.Inputs.{BeginsWith, Tells}
use Rattle.qn_model.specs.Lines.{Ended, Ending, Outcome, after}
use Rattle.qn_playback.specs.Reading.{Rest}
use Rattle.qn_sched.specs.declared.replay_end.ReplayEnd.{ReplayEnd}
use Rattle.qn_commands.specs.declared.fault.Fault.TheVariants as fault
use Rattle.qn_commands.specs.declared.status.Status.{Status}
use Rattle.qn_commands.specs.declared.status.Status.TheVariants.{Done, BadConf, BadSchedule, NotAllowed, ReadFault, WriteFault, UnsafeTiming, UnsafeLease, NoMemory}
use Rattle.qn_commands.specs.Endings.{AnswersWhole, Refuses}
use Rattle.qn_commands.specs.Reads.{Completes, EndsAs, IsCutOff, IsNeeded, IsOver}
use Rattle.qn_commands.specs.Seen.{Output, ReadFails, Seen, WriteFails}
use Rattle.qn_commands.specs.Statuses.{HasCauses, IsOneOf}
use Rattle.qn_top.specs.ReplayEnds.{end_outcome}

-- all that is written for an input of which this is played, and the status
abbrev pub trace_text : {Last : Type 0} → Rest Last → Ending → List ℕ → Outcome
trace_text played_of ending bytes = after (played_of ending bytes).trace (end_outcome (played_of ending bytes).end)

-- a text was written
abbrev pub written_to : Output → List ℕ → Output
written_to output text = record output { written = append_known output.written text }

-- The text that the taken bytes tell of was written, or a prefix of it where the sink failed; or it ran out of memory after a
-- prefix of the trace, for this reason.
pub data TraceEnds {Last : Type 0} (played_of : Rest Last) (wanted : List ℕ → List ℕ → Type 0) (taken : List ℕ)
    (at_end failed : Type 0) (before later : Output) (status : ℕ) : Type 0 where
  Told : EndsAs (trace_text played_of) taken [] at_end failed before later status
      → TraceEnds played_of wanted taken at_end failed before later status
  Wanted : (trace : List ℕ) → Tells played_of taken at_end failed (λ a. BeginsWith a.trace trace) → wanted taken trace
      → Refuses fault.NoMemory (written_to before trace) later status
      → TraceEnds played_of wanted taken at_end failed before later status

-- Bytes were taken, none more than the end needs, and they decided it. What was read after them is of one piece, waits, and
-- was not looked at.
pub record RunsTrace {Last : Type 0} (played_of : Rest Last) (wanted : List ℕ → List ℕ → Type 0) (before later : Seen)
    (status : ℕ) : Type 0 where
  pub taken : List ℕ
  pub waiting : List ℕ
  pub takes : before.input.left ≡ prepend_known (taken ++ waiting) later.input.left
  pub needed : IsNeeded (trace_text played_of) taken
  pub within : length waiting ≤ PIECE
  pub ends : TraceEnds played_of wanted taken (IsOver waiting later.input) (IsCutOff waiting before.input later.input)
      before.output later.output status

-- The trace and its last line were written: of the whole input where nothing failed and memory sufficed, and at status 0. The status is
-- one of these.
pub record WritesTrace {Last : Type 0} (played_of : Rest Last) (wanted : List ℕ → List ℕ → Type 0) (allowed : List Status)
    (before later : Seen) (status : ℕ) : Type 0 where
  pub ran : RunsTrace played_of wanted before later status
  pub complete : status ≢ 11 → ¬ ReadFails before.input later.input
      → ¬ WriteFails before.output later.output → IfSome before.input.left
      (λ bytes. AnswersWhole (trace_text played_of Ended bytes) before.output later.output status)
  pub done : status ≡ 0 → Completes (trace_text played_of) before later
  pub statuses : IsOneOf allowed status
  pub causes : HasCauses before later status

-- the statuses of a replay
abbrev pub replay_statuses : List Status
replay_statuses = Done ∷ BadConf ∷ BadSchedule ∷ NotAllowed ∷ ReadFault ∷ WriteFault ∷ UnsafeTiming ∷ NoMemory ∷ []

-- those of a replay that judges a lease
abbrev pub lease_statuses : List Status
lease_statuses =
    Done ∷ BadConf ∷ BadSchedule ∷ NotAllowed ∷ ReadFault ∷ WriteFault ∷ UnsafeTiming ∷ NoMemory ∷ UnsafeLease ∷ []

-- What was written is a prefix of the trace of a run, and of a last line after it.
pub record ShowsTrace (is_run : List ℕ → Type 0) (old new : Option (List ℕ)) : Type 0 where
  pub shown : List ℕ
  pub hidden : List ℕ
  pub run : is_run (shown ++ hidden)
  pub end : ReplayEnd
  pub writes : AppendsFront old new (shown ++ (end_outcome end).text)

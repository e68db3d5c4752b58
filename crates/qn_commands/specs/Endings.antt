-- The last text of a command: this project's profile.
use Rattle.std.specs.Prelude.{◌≡◌, ℕ, List, [], ◌++◌}
use Rattle.std.specs.Io.KnownBytes.{append_known}
use Rattle.qn_io.specs.Writes.{AppendsFront}
use Rattle.qn_model.specs.Lines.{Outcome}
use Rattle.qn_commands.specs.declared.fault.Fault.{Fault}
use Rattle.qn_commands.specs.Faults.{fault_line, status_of}
use Rattle.qn_commands.specs.Seen.{Output, WriteFails}

-- a text was written after what waits, and the status is the wanted one; or the sink failed, a prefix of both was
-- written, and the status is 7
pub data Answers (waiting text : List ℕ) (wanted : ℕ) (before after : Output) (status : ℕ) : Type 0 where
  Whole : status ≡ wanted → after.written ≡ append_known before.written (waiting ++ text)
      → Answers waiting text wanted before after status
  Cut : status ≡ 7 → WriteFails before after → AppendsFront before.written after.written (waiting ++ text)
      → Answers waiting text wanted before after status

-- the same of a text that nothing waits before
abbrev pub Says : List ℕ → ℕ → Output → Output → ℕ → Type 0
Says text wanted before after status = Answers [] text wanted before after status

-- the end at a fault
abbrev pub Refuses : Fault → Output → Output → ℕ → Type 0
Refuses fault before after status = Says (fault_line fault) (status_of fault) before after status

-- the outcome of a fault
abbrev pub refused : Fault → Outcome
refused why = record { text = fault_line why; status = status_of why }

-- an outcome was written whole, and the status is its own
abbrev pub AnswersWhole : Outcome → Output → Output → ℕ → Type 0
AnswersWhole outcome before after status = (status ≡ outcome.status) × (after.written ≡ append_known before.written outcome.text)

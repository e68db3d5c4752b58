-- How a command that reads lines runs: what it took from the input, and what it gave out for it. This project's profile.
use Rattle.std.specs.Prelude.{◌≡◌, ◌≤◌, ℕ, List, [], ◌∷◌, ◌++◌, length}
use Rattle.std.specs.Io.KnownBytes.{IsAtEnd, prepend_known, append_known}
use Rattle.qn_io.specs.declared.buffered.TheConstants.{PIECE}
use Rattle.qn_io.specs.Writes.{AppendsFront}
pub use Rattle.qn_model.specs.Inputs.{BeginsWith, Tells, Anyway, AtEnd, AtFailure}
use Rattle.qn_model.specs.Lines.{Ending, Ended, ReadFailed, Outcome}
use Rattle.qn_commands.specs.Seen.{Input, Output, ReadFails, Seen, WriteFails}

-- nothing waits that was read, and the input has ended
abbrev pub IsOver : List ℕ → Input → Type 0
IsOver waiting after = (waiting ≡ []) × IsAtEnd after.left

-- nothing waits that was read, and a read failed
abbrev pub IsCutOff : List ℕ → Input → Input → Type 0
IsCutOff waiting before after = (waiting ≡ []) × ReadFails before after

-- the outcome that the taken bytes tell of was written whole; or the sink failed, and a prefix of it was written
pub data EndsAs (text_of : Ending → List ℕ → Outcome) (taken unwritten : List ℕ) (at_end failed : Type 0)
    (before after : Output) (status : ℕ) : Type 0 where
  WroteAll : (outcome : Outcome) → Tells text_of taken at_end failed (λ o. o ≡ outcome) → status ≡ outcome.status
      → after.written ≡ append_known before.written (unwritten ++ outcome.text)
      → EndsAs text_of taken unwritten at_end failed before after status
  WroteFront : (text : List ℕ) → Tells text_of taken at_end failed (λ o. BeginsWith o.text text) → status ≡ 7
      → WriteFails before after → AppendsFront before.written after.written (unwritten ++ text)
      → EndsAs text_of taken unwritten at_end failed before after status

-- the bytes leave the end open: a failing read would be the end
abbrev pub IsOpen : (Ending → List ℕ → Outcome) → List ℕ → Type 0
IsOpen text_of taken = (text_of ReadFailed taken).status ≡ 6

-- no byte was taken that the end does not need: without the last one it is open
pub data IsNeeded (text_of : Ending → List ℕ → Outcome) (taken : List ℕ) : Type 0 where
  StillOpen : IsOpen text_of taken → IsNeeded text_of taken
  LastDecides : (prefix : List ℕ) (byte : ℕ) → taken ≡ prefix ++ byte ∷ [] → IsOpen text_of prefix → IsNeeded text_of taken

-- Bytes were taken, none more than the end needs, and the run ended as they tell. What was read after them is of one
-- piece, waits, and was not looked at.
pub record Runs (text_of : Ending → List ℕ → Outcome) (before after : Seen) (status : ℕ) : Type 0 where
  pub taken : List ℕ
  pub waiting : List ℕ
  pub takes : before.input.left ≡ prepend_known (taken ++ waiting) after.input.left
  pub needed : IsNeeded text_of taken
  pub within : length waiting ≤ PIECE
  pub ends : EndsAs text_of taken [] (IsOver waiting after.input) (IsCutOff waiting before.input after.input)
      before.output after.output status

-- the input was read to its end, and the text of all of it was written
pub record Completes (text_of : Ending → List ℕ → Outcome) (before after : Seen) : Type 0 where
  pub read : List ℕ
  pub takes : before.input.left ≡ prepend_known read after.input.left
  pub at_end : IsAtEnd after.input.left
  pub writes : after.output.written ≡ append_known before.output.written (text_of Ended read).text

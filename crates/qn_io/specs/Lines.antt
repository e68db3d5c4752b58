-- What reading a line does to the bytes that are to come: those that were read and not yet handed out, and then
-- those that the source has left.
use Rattle.std.specs.Prelude.{◌≡◌, ℕ, ◌<◌, ◌==◌, false, List, [], ◌∷◌, ◌++◌, Option, length, All}
use Rattle.std.specs.Io.KnownBytes.{prepend_known, IsAtEnd}
use Rattle.qn_io.specs.declared.buffered.Moved.{Moved}
use Rattle.qn_io.specs.declared.buffered.Moved.TheVariants as moved
use Rattle.qn_io.specs.declared.lines.LineRead.{LineRead}
use Rattle.qn_io.specs.declared.lines.LineRead.TheVariants as read

-- no byte is `\n`
abbrev pub HasNoLineFeed : List ℕ → Type 0
HasNoLineFeed text = All (λ byte. (byte == 10) ≡ false) text

-- A line of 4096 bytes has a further byte that is not `\n`, and that was taken too.
pub record IsTooLong (line : List ℕ) (old new : Option (List ℕ)) : Type 0 where
  pub full : length line ≡ 4096
  pub byte : ℕ
  pub goes_on : (byte == 10) ≡ false
  pub takes : old ≡ prepend_known (line ++ byte ∷ []) new

-- The line that was read, and what was to come before and after: a line goes with its `\n`; the rest is all that was
-- left; at a failure the bytes that came before it are gone.
abbrev pub ReadsLine : LineRead → List ℕ → Option (List ℕ) → Option (List ℕ) → Type 0
ReadsLine read.Line line old new = old ≡ prepend_known (line ++ 10 ∷ []) new
ReadsLine read.Rest line old new = (old ≡ prepend_known line new) × IsAtEnd new
ReadsLine read.TooLong line old new = IsTooLong line old new
ReadsLine read.Failed line old new = old ≡ prepend_known line new

-- At the end and at a failure no byte waits that was read and not handed out.
abbrev pub IsDrainedLine : LineRead → List ℕ → Type 0
IsDrainedLine read.Line waiting = Unit {0}
IsDrainedLine read.Rest waiting = waiting ≡ []
IsDrainedLine read.TooLong waiting = Unit {0}
IsDrainedLine read.Failed waiting = waiting ≡ []

-- a fact for a failed read of a line
abbrev pub OnFailedLine : LineRead → Type 0 → Type 0
OnFailedLine read.Line P = Unit {0}
OnFailedLine read.Rest P = Unit {0}
OnFailedLine read.TooLong P = Unit {0}
OnFailedLine read.Failed P = P

-- Waiting bytes went to the end of the line: up to the `\n`, up to the byte that is one too many, or all of them.
abbrev pub Moves : Moved → List ℕ → List ℕ → List ℕ → List ℕ → Type 0
Moves moved.Line line_old waiting_old line_new waiting_new = line_old ++ waiting_old ≡ line_new ++ 10 ∷ waiting_new
Moves moved.TooLong line_old waiting_old line_new waiting_new =
    (length line_new ≡ 4096) × ((byte : ℕ) × ((byte == 10) ≡ false) × (line_old ++ waiting_old ≡ line_new ++ byte ∷ waiting_new))
Moves moved.All line_old waiting_old line_new waiting_new =
    (line_old ++ waiting_old ≡ line_new) × (waiting_new ≡ []) × (length line_old < length line_new)

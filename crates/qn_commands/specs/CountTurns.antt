-- One line of `count` after the other.
use Rattle.std.specs.Prelude.{◌≡◌, ℕ, ◌+◌, ◌<◌, List, ◌++◌, Option, None, Some, Ok, Err}
use Rattle.std.specs.Io.KnownBytes.{prepend_known}
use Rattle.qn_base.specs.declared.limits.TheConstants.{MOST_EVENTS}
use Rattle.qn_io.specs.Writes.{AppendsFront}
use Rattle.qn_model.specs.declared.count_line.CountLine.{CountLine}
use Rattle.qn_model.specs.declared.line_fault.LineFault.{LineFault}
use Rattle.qn_model.specs.Lines.{Ending, Outcome, after, bad_line, lines_of}
use Rattle.qn_model.specs.CountText.{Counted, count_lines, count_of, line_of, text_of_line, with_line}
use Rattle.qn_commands.specs.declared.status.Status.{Status}
use Rattle.qn_commands.specs.Endings.{Answers}
use Rattle.qn_commands.specs.Reads.{EndsAs, IsCutOff, IsNeeded, IsOver}
use Rattle.qn_commands.specs.Seen.{Input, Output, WriteFails}
use Rattle.qn_commands.specs.Statuses.{code_of}
use Rattle.qn_playback.specs.Writing.{GivesOut}

-- a run of `count` at a moment: what it counted, the text that waits to be written, and what the sink shows
pub record Counting : Type 0 where
  pub counted : Counted
  pub unwritten : List ℕ
  pub output : Output

abbrev pub counting : Counted → List ℕ → Output → Counting
counting counted unwritten output = record { counted = counted; unwritten = unwritten; output = output }

-- what comes next to a run: the bytes that were read and not yet judged, and what the source shows
pub record Coming : Type 0 where
  pub pieces : List ℕ
  pub input : Input

abbrev pub coming : List ℕ → Input → Coming
coming pieces input = record { pieces = pieces; input = input }

-- the bytes that come next
abbrev pub bytes_of : Coming → Option (List ℕ)
bytes_of to_come = prepend_known to_come.pieces to_come.input.left

-- the text of `count` from a state on
abbrev pub count_rest : Counted → Ending → List ℕ → Outcome
count_rest so_far ending text = count_lines so_far ending (lines_of text)

-- a text was given out
abbrev pub Gives : List ℕ → Counting → Counting → Type 0
Gives text before later = GivesOut before.output.written later.output.written later.unwritten (before.unwritten ++ text)

-- a good line was taken in, and its text was given out
pub record TakesLine (line : List ℕ) (before later : Counting) : Type 0 where
  pub good : CountLine
  pub judged : line_of before.counted line ≡ Ok good
  pub room : before.counted.lines < MOST_EVENTS
  pub counted : later.counted ≡ with_line before.counted good
  pub gives : Gives (text_of_line before.counted good) before later

-- the line ended the run: it is at fault; or its text could not be written
pub data EndsAtLine (line : List ℕ) (before : Counting) (output : Output) (status : ℕ) : Type 0 where
  Bad : (fault : LineFault) → line_of before.counted line ≡ Err fault
      → Answers before.unwritten (bad_line (before.counted.lines + 1) fault).text 4 before.output output status
      → EndsAtLine line before output status
  Unwritten : (good : CountLine) → line_of before.counted line ≡ Ok good → status ≡ 7 → WriteFails before.output output
      → AppendsFront before.output.written output.written (before.unwritten ++ text_of_line before.counted good)
      → EndsAtLine line before output status

-- a whole line: the run goes on, or it ends with a status
abbrev pub JudgesLine : Option Status → List ℕ → Counting → Counting → Type 0
JudgesLine None line before later = TakesLine line before later
JudgesLine (Some status) line before later = EndsAtLine line before later.output (code_of status)

-- bytes were taken and their text was given out, and the rest of the input has the text of the new state
pub record GoesOn (first next : Coming) (before later : Counting) : Type 0 where
  pub taken : List ℕ
  pub text : List ℕ
  pub takes : bytes_of first ≡ prepend_known taken (bytes_of next)
  pub rest : (ending : Ending) (further : List ℕ)
      → count_rest before.counted ending (taken ++ further) ≡ after text (count_rest later.counted ending further)
  pub gives : Gives text before later
  pub room : before.counted.lines < MOST_EVENTS
  pub counted : later.counted.lines ≡ before.counted.lines + 1

-- bytes were taken, none more than the end needs, and the run ended as they tell
pub record Ends (first next : Coming) (before : Counting) (output : Output) (status : ℕ) : Type 0 where
  pub taken : List ℕ
  pub takes : bytes_of first ≡ prepend_known taken (bytes_of next)
  pub needed : IsNeeded (count_rest before.counted) taken
  pub ends : EndsAs (count_rest before.counted) taken before.unwritten (IsOver next.pieces next.input)
      (IsCutOff next.pieces first.input next.input) before.output output status

-- one turn: the run goes on, or it ends with a status
abbrev pub Turns : Option Status → Coming → Coming → Counting → Counting → Type 0
Turns None first next before later = GoesOn first next before later
Turns (Some status) first next before later = Ends first next before later.output (code_of status)

-- the run so far: what was taken and given out since it began
pub record HasCounted (left written : Option (List ℕ)) (next : Coming) (later : Counting) : Type 0 where
  pub taken : List ℕ
  pub text : List ℕ
  pub takes : left ≡ prepend_known taken (bytes_of next)
  pub rest : (ending : Ending) (further : List ℕ)
      → count_of ending (taken ++ further) ≡ after text (count_rest later.counted ending further)
  pub gives : GivesOut written later.output.written later.unwritten text

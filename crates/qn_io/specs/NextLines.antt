-- Where the next line of an input stands. This project's profile.
use Rattle.std.specs.Prelude.{ℕ, ◌+◌, List, take}
use Rattle.qn_io.specs.declared.lines.LineRead.{LineRead}
use Rattle.qn_io.specs.declared.lines.LineRead.TheVariants as read
use Rattle.qn_io.specs.declared.next_line.NextLine.{NextLine}
use Rattle.qn_io.specs.declared.next_line.NextLine.TheVariants as line

-- how its reading ended
abbrev pub read_of : NextLine → LineRead
read_of (line.Waits count) = read.Line
read_of (line.Copied how) = how

-- the line, by the bytes that wait and by those that were copied
abbrev pub text_of : NextLine → List ℕ → List ℕ → List ℕ
text_of (line.Waits count) waiting copied = take count waiting
text_of (line.Copied how) waiting copied = copied

-- how many of the bytes that wait are its own, with its end
abbrev pub own_count : NextLine → ℕ
own_count (line.Waits count) = count + 1
own_count (line.Copied how) = 0

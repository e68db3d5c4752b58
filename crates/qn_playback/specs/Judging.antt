-- What was read of a line, and what a world says to it.
use Rattle.std.specs.Prelude.{◌≡◌, ◌≤◌, ℕ, true, List, length, Ok, Err}
use Rattle.qn_base.specs.declared.limits.TheConstants.{MOST_EVENTS}
use Rattle.qn_io.specs.declared.lines.LineRead.{LineRead}
use Rattle.qn_io.specs.declared.lines.LineRead.TheVariants as read
use Rattle.qn_model.specs.declared.line_fault.LineFault.TheVariants.{TooLong}
use Rattle.qn_sched.specs.declared.replay_end.ReplayEnd.{ReplayEnd}
use Rattle.qn_sched.specs.declared.replay_end.ReplayEnd.TheVariants.{NoMemory, ReadFault}
use Rattle.qn_playback.specs.Lines.{Play, Taken, Wants, bad_line, end_at, line_of}

-- the line is at fault, or it is good and the world is out of memory for it
pub data RefusesAt (play : Play) (wants : Wants) (earlier : Taken) (line : List ℕ) (end : ReplayEnd) : Type 0 where
  AtFault : play earlier line ≡ Err end → RefusesAt play wants earlier line end
  OutOfMemory : (text : List ℕ) → play earlier line ≡ Ok text → wants earlier line ≡ true → end ≡ NoMemory → RefusesAt play wants earlier line end

-- what comes of the bytes that were read of a line: its trace text, or the end
abbrev pub judged : Play → ℕ → LineRead → Play
judged play head read.Line earlier line = line_of play head earlier line
judged play head read.Rest earlier rest = Err (end_at head earlier rest)
judged play head read.TooLong earlier front = Err (bad_line head earlier TooLong)
judged play head read.Failed earlier front = Err ReadFault

-- a world stands after so many lines
pub record StandsAfter (standing : Taken → Type 0) (count : ℕ) : Type 0 where
  pub earlier : Taken
  pub stands : standing earlier
  pub counted : length earlier ≡ count
  pub few : count ≤ MOST_EVENTS

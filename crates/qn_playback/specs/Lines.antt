-- What the lines of an input after its head come to, over any world: this project's profile.
use Rattle.std.specs.Prelude.{ℕ, ◌+◌, ◌==◌, nat_lt, Bool, if◌then◌else◌, List, [], ◌∷◌, length, Result, Err}
use Rattle.qn_base.specs.declared.limits.TheConstants.{MOST_EVENTS, MOST_LINE_BYTES}
use Rattle.qn_model.specs.declared.line_fault.LineFault.{LineFault}
use Rattle.qn_model.specs.declared.line_fault.LineFault.TheVariants.{TooLong, TooMany, Unended}
use Rattle.qn_model.specs.Lines.{Ending, Ended, ReadFailed, lines_of}
use Rattle.qn_sched.specs.declared.replay_end.ReplayEnd.{ReplayEnd}
use Rattle.qn_sched.specs.declared.replay_end.ReplayEnd.TheVariants.{BadSchedule, Done, ReadFault}
use Rattle.qn_playback.specs.Played.{Played, ended, go_on, traced}

-- the lines that a world took, newest first
abbrev pub Taken : Type 0
Taken = List (List ℕ)

-- what a line comes to after the earlier ones: its trace text, or the end
abbrev pub Play : Type 0
Play = Taken → List ℕ → Result (List ℕ) ReplayEnd

-- whether a world asks for memory at a line after the earlier ones
abbrev pub Wants : Type 0
Wants = Taken → List ℕ → Bool

-- the end at a fault of the line after the earlier ones, of an input with a head of so many lines
abbrev pub bad_line : ℕ → Taken → LineFault → ReplayEnd
bad_line head earlier fault = BadSchedule (head + length earlier + 1) fault

-- a whole line, without its end: the bounds of every input come before the world
unfoldable pub line_of : Play → ℕ → Play
line_of play head earlier line =
    if nat_lt MOST_LINE_BYTES (length line) then Err (bad_line head earlier TooLong)
    else if length earlier == MOST_EVENTS then Err (bad_line head earlier TooMany)
    else play earlier line

-- the end of an input whose last end of a line these bytes follow
abbrev pub end_at : ℕ → Taken → List ℕ → ReplayEnd
end_at head earlier [] = Done (length earlier)
end_at head earlier (byte ∷ rest) = bad_line head earlier Unended

-- the same, where the input may not have been read to its end
abbrev pub end_of_input : ℕ → Taken → Ending → List ℕ → ReplayEnd
end_of_input head earlier Ended rest = end_at head earlier rest
end_of_input head earlier ReadFailed rest = ReadFault

-- the same, where too many bytes of a line come before everything else
unfoldable pub last_line : ℕ → Taken → Ending → List ℕ → ReplayEnd
last_line head earlier ending rest =
    if nat_lt MOST_LINE_BYTES (length rest) then bad_line head earlier TooLong else end_of_input head earlier ending rest

-- the lines of the input after the earlier ones; the last is what follows the last end of a line
abbrev pub played : Play → ℕ → Taken → Ending → List (List ℕ) → Played Taken
played play head earlier ending [] = ended earlier (last_line head earlier ending [])
played play head earlier ending (rest ∷ []) = ended earlier (last_line head earlier ending rest)
played play head earlier ending (line ∷ next ∷ lines) =
    go_on earlier (line_of play head earlier line) (λ text. traced text (played play head (line ∷ earlier) ending (next ∷ lines)))

-- the bytes of the input after the earlier lines
abbrev pub rest_of : Play → ℕ → Taken → Ending → List ℕ → Played Taken
rest_of play head earlier ending more = played play head earlier ending (lines_of more)

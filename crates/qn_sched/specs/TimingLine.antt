-- The line of a schedule that gives the five times: `timing WATCHDOG MSGWAIT LOOP READ_LIMIT FEED_DELAY`, this
-- project's profile.
use Rattle.std.specs.Prelude.{ℕ, nat_lt, if◌then◌else◌, List, [], ◌∷◌, length, Result, Ok, Err, codes, decimal}
use Rattle.std.specs.List.{join_with_byte}
use Rattle.std.specs.Str.{bytes_eq}
use Rattle.qn_base.specs.declared.limits.TheConstants.{LONGEST_PERIOD, MOST_LINE_BYTES}
use Rattle.qn_model.specs.declared.line_fault.LineFault.{LineFault}
use Rattle.qn_model.specs.declared.line_fault.LineFault.TheVariants.{UnknownWord, BadCount, TooLong}
use Rattle.qn_model.specs.declared.times.Timing.{Timing}
use Rattle.qn_model.specs.Lines.{◌>>=◌, number_between, words_of}

-- the spelling of a timing line, without its end
abbrev pub timing_line : Timing → List ℕ
timing_line t =
    join_with_byte 32
    (codes "timing"
    ∷ decimal t.watchdog ∷ decimal t.msgwait ∷ decimal t.loop_ms ∷ decimal t.read_limit ∷ decimal t.feed_delay ∷ [])

-- a time, from one millisecond to one hour
unfoldable pub time_of : List ℕ → Result ℕ LineFault
time_of word = number_between 1 LONGEST_PERIOD word

-- the five times, judged from left to right
unfoldable pub times_of : List ℕ → List ℕ → List ℕ → List ℕ → List ℕ → Result Timing LineFault
times_of first second third fourth fifth = do
  watchdog ← time_of first
  msgwait ← time_of second
  loop_ms ← time_of third
  read_limit ← time_of fourth
  feed_delay ← time_of fifth
  Ok (record { watchdog = watchdog; msgwait = msgwait; loop_ms = loop_ms; read_limit = read_limit; feed_delay = feed_delay })

-- exactly five words after the first
unfoldable pub times_of_words : List (List ℕ) → Result Timing LineFault
times_of_words (first ∷ second ∷ third ∷ fourth ∷ fifth ∷ []) = times_of first second third fourth fifth
times_of_words words = Err BadCount

-- the first word
unfoldable pub timing_of_words : List (List ℕ) → Result Timing LineFault
timing_of_words [] = Err UnknownWord
timing_of_words (first ∷ words) = if bytes_eq first (codes "timing") then times_of_words words else Err UnknownWord

-- the times that a line gives, or its first fault
unfoldable pub timing_of : List ℕ → Result Timing LineFault
timing_of line = if nat_lt MOST_LINE_BYTES (length line) then Err TooLong else timing_of_words (words_of line)

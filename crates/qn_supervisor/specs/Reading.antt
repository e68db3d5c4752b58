-- What a line of a supervisor says, or its first fault: this project's profile.
use Rattle.std.specs.Prelude.{ℕ, ◌^◌, ◌-◌, Bool, true, false, if◌then◌else◌, List, [], ◌∷◌, Result, Ok, Err, codes}
use Rattle.std.specs.Option.{ok_or}
use Rattle.std.specs.Str.{bytes_eq}
use Rattle.qn_model.specs.declared.line_fault.LineFault.{LineFault}
use Rattle.qn_model.specs.declared.line_fault.LineFault.TheVariants.{UnknownWord, BadCount}
use Rattle.qn_model.specs.Lines.{◌>>=◌, number_between, two_words, words_of}
use Rattle.qn_sched.specs.Words.{one_word}
use Rattle.qn_group.specs.declared.group.Event.TheVariants as event
use Rattle.qn_supervisor.specs.declared.line.Line.{Line}
use Rattle.qn_supervisor.specs.declared.line.Line.TheVariants as line
use Rattle.qn_supervisor.specs.declared.name.LineName.{LineName}
use Rattle.qn_supervisor.specs.declared.name.LineName.TheVariants as name
use Rattle.qn_supervisor.specs.LineNames.{line_name}
use Rattle.qn_supervisor.specs.Words.{outcome_named, verb_named}

-- no further word is left
abbrev pub alone : Line → List (List ℕ) → Result Line LineFault
alone one [] = Ok one
alone one (word ∷ words) = Err BadCount

-- a number up to a greatest one, and the words after it
unfoldable pub number_first : ℕ → List (List ℕ) → Result (ℕ × List (List ℕ)) LineFault
number_first high [] = Err BadCount
number_first high (word ∷ words) = do
  number ← number_between 0 high word
  Ok (number, words)

-- a time, and the words after it
abbrev pub time_first : List (List ℕ) → Result (ℕ × List (List ℕ)) LineFault
time_first words = number_first (2 ^ 64 - 1) words

unfoldable pub either : List ℕ → List ℕ → List ℕ → Result Bool LineFault
either first second word = if bytes_eq word first then Ok true else if bytes_eq word second then Ok false else Err UnknownWord

unfoldable pub resource_of : List (List ℕ) → Result Line LineFault
resource_of words = do
  interval ← time_first words
  patience ← time_first interval.1
  check ← time_first patience.1
  stop ← time_first check.1
  limit ← number_first (2 ^ 32 - 1) stop.1
  window ← time_first limit.1
  alone (line.Resource (record { interval = interval.0; patience = patience.0; check = check.0; stop = stop.0; limit = limit.0; window = window.0 })) window.1

unfoldable pub loop_of : List (List ℕ) → Result Line LineFault
loop_of words = do
  word ← one_word words
  turn ← number_between 0 3600000 word
  Ok (line.Loop turn)

unfoldable pub begin_of : List (List ℕ) → Result Line LineFault
begin_of words = do
  word ← one_word words
  held ← either (codes "held") (codes "released") word
  Ok (line.Begin held)

unfoldable pub failed_of : List (List ℕ) → Result Line LineFault
failed_of words = do
  at ← number_first 15 words
  tick ← time_first at.1
  alone (line.Failed at.0 tick.0) tick.1

unfoldable pub tick_of : List (List ℕ) → Result Line LineFault
tick_of words = do
  word ← one_word words
  tick ← number_between 0 (2 ^ 64 - 1) word
  Ok (line.Happens (event.Tick tick))

unfoldable pub maintenance_of : List (List ℕ) → Result Line LineFault
maintenance_of words = do
  word ← one_word words
  on ← either (codes "on") (codes "off") word
  Ok (line.Happens (event.Maintenance on))

unfoldable pub ended_of : List (List ℕ) → Result Line LineFault
ended_of words = do
  at ← number_first 15 words
  pair ← two_words at.1
  verb ← ok_or (verb_named pair.0) UnknownWord
  outcome ← ok_or (outcome_named pair.1) UnknownWord
  Ok (line.Happens (event.Ended at.0 verb outcome))

-- a line by what its first word says
unfoldable pub line_named : LineName → List (List ℕ) → Result Line LineFault
line_named name.Resource words = resource_of words
line_named name.Loop words = loop_of words
line_named name.Begin words = begin_of words
line_named name.Failed words = failed_of words
line_named name.Tick words = tick_of words
line_named name.Start words = alone (line.Happens event.Start) words
line_named name.Stop words = alone (line.Happens event.Stop) words
line_named name.Move words = alone (line.Happens event.Move) words
line_named name.Maintenance words = maintenance_of words
line_named name.Ended words = ended_of words

unfoldable pub line_of_words : List (List ℕ) → Result Line LineFault
line_of_words [] = Err UnknownWord
line_of_words (first ∷ words) = do
  name ← ok_or (line_name first) UnknownWord
  line_named name words

-- what a line says, or its first fault
unfoldable pub line_of : List ℕ → Result Line LineFault
line_of text = line_of_words (words_of text)

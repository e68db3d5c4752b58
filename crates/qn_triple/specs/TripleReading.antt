-- The event that a line of a schedule of three images says, or its first fault: this project's profile.
use Rattle.std.specs.Prelude.{ℕ, nat_lt, if◌then◌else◌, List, [], ◌∷◌, length, Result, Ok, Err, codes}
use Rattle.std.specs.Option.{ok_or}
use Rattle.std.specs.Str.{bytes_eq}
use Rattle.qn_base.specs.declared.limits.TheConstants.{MOST_EVENTS, MOST_LINE_BYTES}
use Rattle.qn_model.specs.declared.line_fault.LineFault.{LineFault}
use Rattle.qn_model.specs.declared.line_fault.LineFault.TheVariants.{UnknownWord, TooLong}
use Rattle.qn_model.specs.Lines.{◌>>=◌, number_between, two_words, words_of}
use Rattle.qn_safety.specs.declared.triple_event.TripleEvent.{TripleEvent}
use Rattle.qn_safety.specs.declared.triple_event.TripleEvent.TheVariants.{One, LandOn, FailOn, LateOn, OperatorOn}
use Rattle.qn_sched.specs.EventReading.{event_of, message_worded, rank_of}
use Rattle.qn_sched.specs.Words.{three_words}

-- the number of an image
unfoldable pub image_between : List ℕ → Result ℕ LineFault
image_between word = number_between 1 3 word

-- `land ID K`
unfoldable pub land_on_of : List ℕ → List (List ℕ) → Result TripleEvent LineFault
land_on_of ids words = do
  pair ← two_words words
  rank ← rank_of ids pair.0
  image ← image_between pair.1
  Ok (LandOn rank image)

-- `fail ID K`
unfoldable pub fail_on_of : List ℕ → List (List ℕ) → Result TripleEvent LineFault
fail_on_of ids words = do
  pair ← two_words words
  rank ← rank_of ids pair.0
  image ← image_between pair.1
  Ok (FailOn rank image)

-- `late ID K N`
unfoldable pub late_on_of : List ℕ → List (List ℕ) → Result TripleEvent LineFault
late_on_of ids words = do
  three ← three_words words
  rank ← rank_of ids three.0
  image ← image_between three.1
  number ← number_between 1 MOST_EVENTS three.2
  Ok (LateOn rank image number)

-- `operator ID K MESSAGE`
unfoldable pub operator_on_of : List ℕ → List (List ℕ) → Result TripleEvent LineFault
operator_on_of ids words = do
  three ← three_words words
  rank ← rank_of ids three.0
  image ← image_between three.1
  message ← ok_or (message_worded three.2) UnknownWord
  Ok (OperatorOn rank image message)

-- a line that names no image is one of the world of one image
unfoldable pub one_of : List ℕ → List ℕ → Result TripleEvent LineFault
one_of ids line = do
  event ← event_of ids line
  Ok (One event)

-- a line by its words: the first one says whether it names an image
unfoldable pub triple_event_of_words : List ℕ → List ℕ → List (List ℕ) → Result TripleEvent LineFault
triple_event_of_words ids line [] = Err UnknownWord
triple_event_of_words ids line (first ∷ words) =
    if bytes_eq first (codes "land") then land_on_of ids words
    else if bytes_eq first (codes "fail") then fail_on_of ids words
    else if bytes_eq first (codes "late") then late_on_of ids words
    else if bytes_eq first (codes "operator") then operator_on_of ids words
    else one_of ids line

-- the event that a line says, or its first fault
unfoldable pub triple_event_of : List ℕ → List ℕ → Result TripleEvent LineFault
triple_event_of ids line =
    if nat_lt MOST_LINE_BYTES (length line) then Err TooLong else triple_event_of_words ids line (words_of line)

-- The event that a line of a schedule beside an arbiter says, or its first fault: this project's profile.
use Rattle.std.specs.Prelude.{ℕ, ◌-◌, ◌^◌, nat_lt, if◌then◌else◌, List, [], ◌∷◌, length, Result, Ok, Err}
use Rattle.std.specs.Option.{option_map_or}
use Rattle.qn_base.specs.declared.limits.TheConstants.{MOST_LINE_BYTES}
use Rattle.qn_model.specs.declared.line_fault.LineFault.{LineFault}
use Rattle.qn_model.specs.declared.line_fault.LineFault.TheVariants.{UnknownWord, BadCount, TooLong}
use Rattle.qn_model.specs.Lines.{◌>>=◌, number_between, words_of}
use Rattle.qn_safety.specs.declared.arbiter_event.ArbiterEvent.{ArbiterEvent}
use Rattle.qn_safety.specs.declared.arbiter_event.ArbiterEvent.TheVariants as beside
use Rattle.qn_sched.specs.EventReading.{event_of, pass_of, rank_of}
use Rattle.qn_sched.specs.Words.{one_word}
use Rattle.qn_arbiter.specs.declared.event_name.ArbiterName.{ArbiterName}
use Rattle.qn_arbiter.specs.declared.event_name.ArbiterName.TheVariants.{PassWith, ArbiterBoot, ArbiterCrash, Poll, Hear, Reply}
use Rattle.qn_arbiter.specs.EventNames.{arbiter_name}

-- `pass-with DH`, and then the words of a pass after its first
unfoldable pub pass_with_of : List ℕ → List (List ℕ) → Result ArbiterEvent LineFault
pass_with_of ids [] = Err BadCount
pass_with_of ids (first ∷ []) = Err BadCount
pass_with_of ids (first ∷ second ∷ words) = do
  advance ← number_between 0 1000000000000 first
  one ← pass_of ids (second ∷ words)
  Ok (beside.PassWith advance one)

-- `arbiter-boot BASE`
unfoldable pub arbiter_boot_of : List (List ℕ) → Result ArbiterEvent LineFault
arbiter_boot_of words = do
  word ← one_word words
  base ← number_between 0 1000000000000000 word
  Ok (beside.ArbiterBoot base)

-- `arbiter-crash`
abbrev pub arbiter_crash_of : List (List ℕ) → Result ArbiterEvent LineFault
arbiter_crash_of [] = Ok beside.ArbiterCrash
arbiter_crash_of (word ∷ words) = Err BadCount

-- `poll ID`
unfoldable pub poll_of : List ℕ → List (List ℕ) → Result ArbiterEvent LineFault
poll_of ids words = do
  word ← one_word words
  rank ← rank_of ids word
  Ok (beside.Poll rank)

-- `hear N`
unfoldable pub hear_of : List (List ℕ) → Result ArbiterEvent LineFault
hear_of words = do
  word ← one_word words
  number ← number_between 0 (2 ^ 64 - 1) word
  Ok (beside.Hear number)

-- `reply N`
unfoldable pub reply_of : List (List ℕ) → Result ArbiterEvent LineFault
reply_of words = do
  word ← one_word words
  number ← number_between 0 (2 ^ 64 - 1) word
  Ok (beside.Reply number)

-- a line by what its first word says
unfoldable pub arbiter_event_named : List ℕ → ArbiterName → List (List ℕ) → Result ArbiterEvent LineFault
arbiter_event_named ids PassWith words = pass_with_of ids words
arbiter_event_named ids ArbiterBoot words = arbiter_boot_of words
arbiter_event_named ids ArbiterCrash words = arbiter_crash_of words
arbiter_event_named ids Poll words = poll_of ids words
arbiter_event_named ids Hear words = hear_of words
arbiter_event_named ids Reply words = reply_of words

-- a line of the world without an arbiter
unfoldable pub event_alone_of : List ℕ → List ℕ → Result ArbiterEvent LineFault
event_alone_of ids line = do
  event ← event_of ids line
  Ok (beside.One event)

-- a line by its words
unfoldable pub arbiter_event_of_words : List ℕ → List ℕ → List (List ℕ) → Result ArbiterEvent LineFault
arbiter_event_of_words ids line [] = Err UnknownWord
arbiter_event_of_words ids line (first ∷ words) =
    option_map_or (λ name. arbiter_event_named ids name words) (arbiter_name first) (event_alone_of ids line)

-- the event that a line says, or its first fault
unfoldable pub arbiter_event_of : List ℕ → List ℕ → Result ArbiterEvent LineFault
arbiter_event_of ids line =
    if nat_lt MOST_LINE_BYTES (length line) then Err TooLong else arbiter_event_of_words ids line (words_of line)

-- The event that a line of a schedule says, or its first fault: this project's profile.
use Rattle.std.specs.Prelude.{ℕ, ◌-◌, ◌^◌, Bool, true, false, nat_lt, if◌then◌else◌, List, [], ◌∷◌, find, length, map, Option, Result, Ok, Err, codes}
use Rattle.std.specs.Option.{ok_or}
use Rattle.std.specs.List.{join_with_byte}
use Rattle.std.specs.Str.{bytes_eq}
use Rattle.qn_base.specs.declared.ids.Rank.{Rank}
use Rattle.qn_base.specs.declared.limits.TheConstants.{MOST_EVENTS, MOST_LINE_BYTES}
use Rattle.qn_model.specs.declared.events.Event.{Event}
use Rattle.qn_model.specs.declared.events.Event.TheVariants as event
use Rattle.qn_model.specs.declared.line_fault.LineFault.{LineFault}
use Rattle.qn_model.specs.declared.line_fault.LineFault.TheVariants.{UnknownWord, BadCount, BadNumber, TooLong}
use Rattle.qn_model.specs.declared.disk.Message.{Message}
use Rattle.qn_model.specs.declared.disk.Message.TheVariants.{Empty, Test, Reset, Off, Exit, Crashdump}
use Rattle.qn_model.specs.Messages.{operator_word}
use Rattle.qn_model.specs.Lines.{◌>>=◌, is_ascending, known_rank, members_of, number_between, parts, two_words, words_of}
use Rattle.qn_sched.specs.declared.event_name.EventName.{EventName}
use Rattle.qn_sched.specs.declared.event_name.EventName.TheVariants.{Pass, Boot, BootClean, Late, View, Deliver, Device, Operator, OfNode}
use Rattle.qn_sched.specs.declared.event_name.NodeEvent.{NodeEvent}
use Rattle.qn_sched.specs.EventNames.{event_at, event_name}
use Rattle.qn_sched.specs.Words.{one_word, three_words}

-- the node that a word names by its id
unfoldable pub rank_of : List ℕ → List ℕ → Result Rank LineFault
rank_of ids word = do
  rank ← known_rank ids word
  Ok (record { 0 = rank })

-- a line that says the node alone
unfoldable pub node_event_of : List ℕ → NodeEvent → List (List ℕ) → Result Event LineFault
node_event_of ids event words = do
  word ← one_word words
  rank ← rank_of ids word
  Ok (event_at event rank)

-- a node, and a number in a range
unfoldable pub numbered_of : List ℕ → ℕ → ℕ → List (List ℕ) → Result (Rank × ℕ) LineFault
numbered_of ids low high words = do
  pair ← two_words words
  rank ← rank_of ids pair.0
  number ← number_between low high pair.1
  Ok (rank, number)

unfoldable pub boot_of : List ℕ → List (List ℕ) → Result Event LineFault
boot_of ids words = do
  numbered ← numbered_of ids 0 1000000000000000 words
  Ok (event.Boot numbered.0 numbered.1)

unfoldable pub boot_clean_of : List ℕ → List (List ℕ) → Result Event LineFault
boot_clean_of ids words = do
  numbered ← numbered_of ids 0 1000000000000000 words
  Ok (event.BootClean numbered.0 numbered.1)

unfoldable pub late_of : List ℕ → List (List ℕ) → Result Event LineFault
late_of ids words = do
  numbered ← numbered_of ids 1 MOST_EVENTS words
  Ok (event.Late numbered.0 numbered.1)

unfoldable pub deliver_of : List ℕ → List (List ℕ) → Result Event LineFault
deliver_of ids words = do
  numbered ← numbered_of ids 0 (2 ^ 64 - 1) words
  Ok (event.Deliver numbered.0 numbered.1)

unfoldable pub view_of : List ℕ → List (List ℕ) → Result Event LineFault
view_of ids words = do
  three ← three_words words
  rank ← rank_of ids three.0
  id ← number_between 0 (2 ^ 64 - 1) three.1
  members ← members_of ids three.2
  Ok (event.View rank (record { id = id; members = members }))

unfoldable pub yes_or_no : List ℕ → Result Bool LineFault
yes_or_no word =
    if bytes_eq word (codes "yes") then Ok true
    else if bytes_eq word (codes "no") then Ok false
    else Err UnknownWord

unfoldable pub device_of : List ℕ → List (List ℕ) → Result Event LineFault
device_of ids words = do
  pair ← two_words words
  rank ← rank_of ids pair.0
  agrees ← yes_or_no pair.1
  Ok (event.Device rank agrees)

-- the messages that an operator can send
abbrev pub messages : List Message
messages = Empty ∷ Test ∷ Reset ∷ Off ∷ Exit ∷ Crashdump ∷ []

-- sbd(8), `message`: the message that an operator sends by a word
unfoldable pub message_worded : List ℕ → Option Message
message_worded word = find (λ message. bytes_eq (operator_word message) word) messages

unfoldable pub operator_of : List ℕ → List (List ℕ) → Result Event LineFault
operator_of ids words = do
  pair ← two_words words
  rank ← rank_of ids pair.0
  message ← ok_or (message_worded pair.1) UnknownWord
  Ok (event.Operator rank message)

-- the id and the advance of a clock, judged from left to right
unfoldable pub clock_at : List ℕ → List ℕ → List ℕ → Result (Rank × ℕ) LineFault
clock_at ids first second = do
  rank ← rank_of ids first
  advance ← number_between 0 1000000000000 second
  Ok (rank, advance)

-- a clock of a pass, by its parts round `=`: the id stands before the first one, and the advance is all that stands after it
unfoldable pub clock_of_parts : List ℕ → List (List ℕ) → Result (Rank × ℕ) LineFault
clock_of_parts ids [] = Err BadNumber
clock_of_parts ids (id ∷ []) = Err BadNumber
clock_of_parts ids (id ∷ next ∷ others) = clock_at ids id (join_with_byte 61 (next ∷ others))

abbrev pub clock_of : List ℕ → List ℕ → Result (Rank × ℕ) LineFault
clock_of ids word = clock_of_parts ids (parts 61 word)

-- the clocks of a pass, judged from left to right
unfoldable pub each_clock : List ℕ → List (List ℕ) → Result (List (Rank × ℕ)) LineFault
each_clock ids [] = Ok []
each_clock ids (word ∷ words) = do
  clock ← clock_of ids word
  clocks ← each_clock ids words
  Ok (clock ∷ clocks)

-- the clocks of a pass. Their order is judged last; ranks follow ascending id.
unfoldable pub clocks_of : List ℕ → List (List ℕ) → Result (List (Rank × ℕ)) LineFault
clocks_of ids words = do
  clocks ← each_clock ids words
  if is_ascending (map (λ clock. clock.0.0) clocks) then Ok clocks else Err BadCount

unfoldable pub pass_of : List ℕ → List (List ℕ) → Result Event LineFault
pass_of ids [] = Err BadCount
pass_of ids (first ∷ words) = do
  dt ← number_between 1 1000000000 first
  clocks ← clocks_of ids words
  Ok (event.Pass dt clocks)

-- a line by what its first word says
unfoldable pub event_named : List ℕ → EventName → List (List ℕ) → Result Event LineFault
event_named ids Pass words = pass_of ids words
event_named ids Boot words = boot_of ids words
event_named ids BootClean words = boot_clean_of ids words
event_named ids Late words = late_of ids words
event_named ids View words = view_of ids words
event_named ids Deliver words = deliver_of ids words
event_named ids Device words = device_of ids words
event_named ids Operator words = operator_of ids words
event_named ids (OfNode event) words = node_event_of ids event words

unfoldable pub event_of_words : List ℕ → List (List ℕ) → Result Event LineFault
event_of_words ids [] = Err UnknownWord
event_of_words ids (first ∷ words) = do
  name ← ok_or (event_name first) UnknownWord
  event_named ids name words

-- the event that a line says, or its first fault
unfoldable pub event_of : List ℕ → List ℕ → Result Event LineFault
event_of ids line = if nat_lt MOST_LINE_BYTES (length line) then Err TooLong else event_of_words ids (words_of line)

-- the answer of a call that fills in an event, with that event
abbrev pub filled_in : {A : Type 0} → Result (Unit {0}) LineFault → A → Result A LineFault
filled_in (Ok done) event = Ok event
filled_in (Err fault) event = Err fault

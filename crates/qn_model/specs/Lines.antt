-- Texts by lines, words and members, the numbers in them, and how a command ends: this project's profile,
-- shared by every command that reads lines.
use Rattle.std.specs.Prelude.{ℕ, ◌^◌, Bool, true, false, ◌&&◌, ◌||◌, ◌==◌, nat_lt, if◌then◌else◌, List, [], ◌∷◌, ◌++◌, ◌-◌, map, filter, fold, position, slice_index, Result, Ok, Err, codes, decimal, bit_or}
use Rattle.std.specs.Option.{ok_or}
use Rattle.std.specs.List.{slice_split, list_all}
use Rattle.qn_base.specs.Decimal.{number_of}
use Rattle.qn_base.specs.declared.ids.Mask.{Mask}
use Rattle.qn_model.specs.declared.line_fault.LineFault.{LineFault}
use Rattle.qn_model.specs.declared.line_fault.LineFault.TheVariants.{UnknownWord, BadCount, BadNumber, UnknownNode, BadView, TooLong, Unended, TooMany, RepeatedNode}

-- how the input ended: a read gave no bytes, or a read failed
pub data Ending : Type 0 where
  Ended : Ending
  ReadFailed : Ending

-- what a command writes, and the status that it ends with
pub record Outcome : Type 0 where
  pub text : List ℕ
  pub status : ℕ

-- a text, and then an outcome
abbrev pub after : List ℕ → Outcome → Outcome
after text outcome = record { text = text ++ outcome.text; status = outcome.status }

-- the parts of a text round a byte: at least one, and the last is what follows the last of these bytes
abbrev pub parts : ℕ → List ℕ → List (List ℕ)
parts byte text = slice_split (λ b. b == byte) text

-- the lines of an input; the last is what follows the last end of a line
abbrev pub lines_of : List ℕ → List (List ℕ)
lines_of text = parts 10 text

-- the words of a line, separated by exactly one space
abbrev pub words_of : List ℕ → List (List ℕ)
words_of line = parts 32 line

-- go on with the value, or stop at the first fault
infixl 10 ◌>>=◌
abbrev pub ◌>>=◌ : {A B : Type 0} → Result A LineFault → (A → Result B LineFault) → Result B LineFault
Ok value >>= next = next value
Err fault >>= next = Err fault

-- exactly two words
abbrev pub two_words : List (List ℕ) → Result (List ℕ × List ℕ) LineFault
two_words [] = Err BadCount
two_words (first ∷ []) = Err BadCount
two_words (first ∷ second ∷ []) = Ok (first, second)
two_words (first ∷ second ∷ third ∷ words) = Err BadCount

-- a zero before further digits
abbrev pub has_leading_zero : List ℕ → Bool
has_leading_zero [] = false
has_leading_zero (first ∷ []) = false
has_leading_zero (first ∷ second ∷ rest) = first == 48

-- a decimal number in a range, without leading zeros
unfoldable pub number_between : ℕ → ℕ → List ℕ → Result ℕ LineFault
number_between low high word = do
  number ← ok_or (number_of word) BadNumber
  if has_leading_zero word || nat_lt number low || nat_lt high number then Err BadNumber else Ok number

-- whether a part has a byte
abbrev pub is_filled : List ℕ → Bool
is_filled [] = false
is_filled (byte ∷ bytes) = true

-- strictly ascending numbers
abbrev pub is_ascending : List ℕ → Bool
is_ascending [] = true
is_ascending (n ∷ []) = true
is_ascending (n ∷ m ∷ ms) = nat_lt n m && is_ascending (m ∷ ms)

-- the rank of the node that a word names by its id, among the ids of all nodes
unfoldable pub known_rank : List ℕ → List ℕ → Result ℕ LineFault
known_rank ids word = do
  id ← number_between 0 (2 ^ 64 - 1) word
  ok_or (position (λ k. k == id) ids) UnknownNode

-- the ranks of the nodes that the words name, judged from left to right
unfoldable pub known_ranks : List ℕ → List (List ℕ) → Result (List ℕ) LineFault
known_ranks ids [] = Ok []
known_ranks ids (word ∷ words) = do
  rank ← known_rank ids word
  ranks ← known_ranks ids words
  Ok (rank ∷ ranks)

-- the set of these ranks
abbrev pub mask_of : List ℕ → Mask
mask_of ranks = record { 0 = fold (λ mask rank. bit_or mask (2 ^ rank)) 0 ranks }

-- a list of members: at least one id, joined by commas, strictly ascending. An empty part is judged after
-- the ids, and the order last.
unfoldable pub members_of : List ℕ → List ℕ → Result Mask LineFault
members_of ids word = do
  ranks ← known_ranks ids (filter is_filled (parts 44 word))
  if list_all is_filled (parts 44 word) && is_ascending (map (slice_index ids) ranks)
      then Ok (mask_of ranks) else Err BadView

-- the name of a fault
abbrev pub name_of : LineFault → List ℕ
name_of UnknownWord = codes "UnknownWord"
name_of BadCount = codes "BadCount"
name_of BadNumber = codes "BadNumber"
name_of UnknownNode = codes "UnknownNode"
name_of BadView = codes "BadView"
name_of TooLong = codes "TooLong"
name_of Unended = codes "Unended"
name_of TooMany = codes "TooMany"
name_of RepeatedNode = codes "RepeatedNode"

-- the end of a command at a line that is at fault
abbrev pub bad_line : ℕ → LineFault → Outcome
bad_line line fault = record { text = codes "fault BadSchedule line " ++ decimal line ++ codes " " ++ name_of fault ++ codes "\n"; status = 4 }

-- the end of a command whose input could not be read
abbrev pub read_fault : Outcome
read_fault = record { text = codes "fault ReadFault\n"; status = 6 }

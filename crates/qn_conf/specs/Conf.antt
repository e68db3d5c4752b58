-- The tree of a settings text, and the first fault of a text that has none: corosync.conf(5); the limits and the
-- order of the faults are this project's profile.
use Rattle.std.specs.Prelude.{ℕ, ◌+◌, ◌-◌, ◌≡◌, ◌≢◌, ◌≤◌, ◌<◌, ◌==◌, nat_lt, not, if◌then◌else◌, List, [], ◌∷◌, ◌++◌, Option, Some, None, Result, Ok, Err, length, take, All, slice_index_or, IsUtf8}
use Rattle.std.specs.List.{slice_split}
use Rattle.std.specs.Option.{option_map_or}
use Rattle.std.specs.Str.{is_utf8}
use Rattle.qn_conf.specs.declared.faults.ConfFault.{ConfFault}
use Rattle.qn_conf.specs.declared.faults.ConfFault.TheVariants.{BadLine, Unclosed, ExtraClose, TooDeep, NotText, TooLong, NoMemory}
use Rattle.qn_conf.specs.declared.tree.Item.{Item}
use Rattle.qn_conf.specs.declared.tree.Item.TheVariants.{Enter, Exit, Pair}
use Rattle.qn_conf.specs.declared.line.Meaning.{Meaning}
use Rattle.qn_conf.specs.declared.line.Meaning.TheVariants.{PassedOver, Says, Bad}
use Rattle.qn_conf.specs.Line.{meaning_of, item_in, IsKnown}
use Rattle.qn_conf.specs.Nesting.{begins, ends, IsNested}

-- the lines of a text: each ends at its end of line, and what follows the last one is a line too
abbrev pub lines : List ℕ → List (List ℕ)
lines text = slice_split (λ byte. byte == 10) text

-- the items of the lines, in text order
abbrev pub items_of : List (List ℕ) → List Item
items_of [] = []
items_of (line ∷ lines) = item_in (meaning_of line) ++ items_of lines

-- the tree is the list of the items of the text's lines, each line is of a known kind, every section is ended, and at
-- most four stand inside one another
pub record Conf (text : List ℕ) (tree : List Item) : Type 0 where
  pub fits : length text ≤ 1048576
  pub utf8 : IsUtf8 text
  pub known : All (λ line. IsKnown (meaning_of line)) (lines text)
  pub items : tree ≡ items_of (lines text)
  pub nested : IsNested tree
  pub ended : ends tree ≡ begins tree

-- the fault of an item in line `number`, where so many sections stand open before it
abbrev pub fault_of : ℕ → ℕ → Item → Option ConfFault
fault_of number depth (Enter name) = if depth == 4 then Some (TooDeep number) else None
fault_of number depth Exit = if depth == 0 then Some (ExtraClose number) else None
fault_of number depth (Pair key value) = None

-- the fault of line `number` that has this meaning
abbrev pub fault_in : ℕ → ℕ → Meaning → Option ConfFault
fault_in number depth PassedOver = None
fault_in number depth (Says item) = fault_of number depth item
fault_in number depth Bad = Some (BadLine number)

-- how many sections stand open after these lines
abbrev pub open_after : List (List ℕ) → ℕ
open_after lines = begins (items_of lines) - ends (items_of lines)

-- the fault of a line after the lines before it
abbrev pub fault_after : List (List ℕ) → List ℕ → Option ConfFault
fault_after before line = fault_in (length before + 1) (open_after before) (meaning_of line)

-- the fault of the line at this place, from 0
abbrev pub fault_at : List (List ℕ) → ℕ → Option ConfFault
fault_at lines place = fault_after (take place lines) (slice_index_or lines place [])

-- the first line with a fault has this one
pub record IsFirstOfLines (lines : List (List ℕ)) (fault : ConfFault) : Type 0 where
  pub place : ℕ
  pub within : place < length lines
  pub here : fault_at lines place ≡ Some fault
  pub before : (k : ℕ) → k < place → fault_at lines k ≡ None

-- a text that is short enough, and UTF-8
abbrev pub IsText : List ℕ → Type 0
IsText text = (length text ≤ 1048576) × IsUtf8 text

-- the fault is the first of the text: TooLong, NotText, the first line at fault, Unclosed
abbrev pub IsFirstFault : List ℕ → ConfFault → Type 0
IsFirstFault text TooLong = 1048576 < length text
IsFirstFault text NotText = (length text ≤ 1048576) × ¬ (IsUtf8 text)
IsFirstFault text (BadLine line) = IsText text × IsFirstOfLines (lines text) (BadLine line)
IsFirstFault text (ExtraClose line) = IsText text × IsFirstOfLines (lines text) (ExtraClose line)
IsFirstFault text (TooDeep line) = IsText text × IsFirstOfLines (lines text) (TooDeep line)
IsFirstFault text Unclosed =
    IsText text × ((k : ℕ) → k < length (lines text) → fault_at (lines text) k ≡ None)
    × (ends (items_of (lines text)) ≢ begins (items_of (lines text)))
IsFirstFault text NoMemory = ⊥

-- the first fault of lines that follow others
abbrev pub first_fault : List (List ℕ) → List (List ℕ) → Option ConfFault
first_fault before [] = None
first_fault before (line ∷ lines) =
    option_map_or Some (fault_after before line) (first_fault (before ++ line ∷ []) lines)

-- what lines without a fault give: their items, where every section is ended
abbrev pub tree_of : List (List ℕ) → Result (List Item) ConfFault
tree_of lines = if open_after lines == 0 then Ok (items_of lines) else Err Unclosed

-- the tree of a text, or its first fault
unfoldable pub conf_of : List ℕ → Result (List Item) ConfFault
conf_of text =
    if nat_lt 1048576 (length text) then Err TooLong
    else if not (is_utf8 text) then Err NotText
    else option_map_or Err (first_fault [] (lines text)) (tree_of (lines text))

-- what is said of an answer that is not out of memory
abbrev pub UnlessNoMemory : {T : Type 0} → Result T ConfFault → Type 0 → Type 0
UnlessNoMemory (Ok tree) P = P
UnlessNoMemory (Err NoMemory) P = Unit {0}
UnlessNoMemory (Err fault) P = P

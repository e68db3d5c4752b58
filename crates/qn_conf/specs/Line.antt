-- What one line of a settings text says: corosync.conf(5).
use Rattle.std.specs.Prelude.{ℕ, ◌+◌, ◌-◌, ◌==◌, ◌||◌, ◌&&◌, not, Bool, if◌then◌else◌, List, [], ◌∷◌, Option, Some, None, length, take, drop, position, slice_index, option_and_then}
use Rattle.std.specs.List.{prefix_len, suffix_len, list_any}
use Rattle.std.specs.Option.{option_map_or}
use Rattle.qn_conf.specs.declared.tree.Item.{Item}
use Rattle.qn_conf.specs.declared.tree.Item.TheVariants.{Enter, Exit, Pair}
use Rattle.qn_conf.specs.declared.line.Meaning.{Meaning}
use Rattle.qn_conf.specs.declared.line.Meaning.TheVariants.{PassedOver, Says, Bad}

-- blanks are space, tab and carriage return
abbrev pub is_blank : ℕ → Bool
is_blank byte = byte == 32 || byte == 9 || byte == 13

-- the text without the blanks at its beginning
abbrev pub trim_start : List ℕ → List ℕ
trim_start text = drop (prefix_len is_blank text) text

-- the text without the blanks at its end
abbrev pub trim_end : List ℕ → List ℕ
trim_end text = take (length text - suffix_len is_blank text) text

-- the text without the blanks at both ends
unfoldable pub trim : List ℕ → List ℕ
trim text = trim_end (trim_start text)

-- the name of a section or of a key: not empty, and without blanks
unfoldable pub is_name : List ℕ → Bool
is_name word = not (length word == 0) && not (list_any is_blank word)

-- nothing, or a comment: the first byte is `#`
abbrev pub is_passed_over : List ℕ → Bool
is_passed_over text = length text == 0 || slice_index text 0 == 35

-- a `}` alone
abbrev pub is_end : List ℕ → Bool
is_end text = length text == 1 && slice_index text 0 == 125

-- the section that begins where the last byte is `{`, after its name
unfoldable pub section_of : List ℕ → Option Item
section_of text =
    let name = trim (take (length text - 1) text)
    in if slice_index text (length text - 1) == 123 && is_name name then Some (Enter name) else None

-- the key before the first `:`, and the value after it
abbrev pub pair_at : List ℕ → ℕ → Option Item
pair_at text colon =
    let key = trim (take colon text)
    in if is_name key then Some (Pair key (trim (drop (colon + 1) text))) else None

unfoldable pub pair_of : List ℕ → Option Item
pair_of text = option_and_then (pair_at text) (position (λ byte. byte == 58) text)

-- the first of two that is there
abbrev pub or_else : {X : Type 0} → Option X → Option X → Option X
or_else None second = second
or_else (Some first) second = Some first

-- the kinds of lines, in the order in which they are tried
unfoldable pub meaning_of : List ℕ → Meaning
meaning_of line =
    let text = trim line
    in if is_passed_over text then PassedOver
    else if is_end text then Says Exit
    else option_map_or Says (or_else (section_of text) (pair_of text)) Bad

-- the item that a line says, if it says one
abbrev pub item_in : Meaning → List Item
item_in PassedOver = []
item_in (Says item) = item ∷ []
item_in Bad = []

-- whether the line is of one of the kinds
abbrev pub IsKnown : Meaning → Type 0
IsKnown PassedOver = Unit {0}
IsKnown (Says item) = Unit {0}
IsKnown Bad = ⊥

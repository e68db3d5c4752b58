-- The name of a node, as the last word of a line (this project's profile, LIVE.md "The journal").
use Rattle.std.specs.Prelude.{ℕ, ◌++◌, List, [], ◌∷◌, Option, Some, None, codes, option_and_then, option_map, slice_get, string_bytes}
use Rattle.qn_event.specs.EventTexts.{EventText}
use Rattle.qn_event.specs.EventWords.{with_word}
use Rattle.qn_told.specs.declared.node_names.NodeNames.{NodeNames}

-- the name at the place of a rank
abbrev pub name_at : NodeNames → ℕ → Option (List ℕ)
name_at names rank = option_and_then (λ name. option_map string_bytes name) (slice_get names.names.now rank)

-- a line with a name, where there is one
abbrev pub named_line : Option (List ℕ) → EventText → EventText
named_line None line = line
named_line (Some name) line = record line { words = with_word line.words (codes "name") name 63 }

-- lines and one more, where they are told
abbrev pub said_more : Option (List EventText) → EventText → Option (List EventText)
said_more said line = option_map (λ lines. lines ++ line ∷ []) said

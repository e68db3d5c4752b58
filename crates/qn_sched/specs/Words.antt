-- What is left of a text while its parts are taken one by one, and the words of a line by how many they are.
use Rattle.std.specs.Prelude.{ℕ, List, [], ◌∷◌, Option, None, Some, Result, Ok, Err}
use Rattle.qn_model.specs.declared.line_fault.LineFault.{LineFault}
use Rattle.qn_model.specs.declared.line_fault.LineFault.TheVariants.{BadCount}
use Rattle.qn_model.specs.Lines.{parts}

-- the parts that are left round a byte: none after the last part
abbrev pub parts_left : ℕ → Option (List ℕ) → List (List ℕ)
parts_left byte None = []
parts_left byte (Some text) = parts byte text

-- exactly one word
abbrev pub one_word : List (List ℕ) → Result (List ℕ) LineFault
one_word [] = Err BadCount
one_word (first ∷ []) = Ok first
one_word (first ∷ second ∷ words) = Err BadCount

-- exactly three words
abbrev pub three_words : List (List ℕ) → Result (List ℕ × List ℕ × List ℕ) LineFault
three_words [] = Err BadCount
three_words (first ∷ []) = Err BadCount
three_words (first ∷ second ∷ []) = Err BadCount
three_words (first ∷ second ∷ third ∷ []) = Ok (first, second, third)
three_words (first ∷ second ∷ third ∷ fourth ∷ words) = Err BadCount

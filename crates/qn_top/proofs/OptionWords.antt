-- The words that are left after the options of a command.
use Rattle.std.proofs.Common.{◌≡◌, ◌<◌, ◌==◌, false, ℕ, List, [], ◌∷◌, length, map, None, refl, arith}
use Rattle.std.proofs.lemmas.List.Splits.{length-slice_split}
use Rattle.qn_model.specs.Lines.{parts}
use Rattle.qn_top.specs.declared.options.OptionName.{OptionName}
use Rattle.qn_top.specs.Options.{are_options, value_of}

-- a text has a part
pub parts_there : (byte : ℕ) (text : List ℕ) → (length (parts byte text) == 0) ≡ false
parts_there byte text = some (length (parts byte text)) (omega (arith, length-slice_split (λ b. b == byte) text))
  where
    some : (n : ℕ) → 0 < n → (n == 0) ≡ false
    some n more = grind arith

-- a single word has no value
pub value_of_over : {A : Type 0} (word_of : A → List ℕ) (option : List ℕ) (words : List A) → length words < 2 → value_of option (map word_of words) ≡ None
value_of_over word_of option [] short = refl
value_of_over word_of option (name ∷ []) short = refl
value_of_over word_of option (name ∷ value ∷ words) short = absurd (omega arith)

-- a single word is no option
pub are_options_over : {A : Type 0} (word_of : A → List ℕ) (known : List OptionName) (words : List A) → length words < 2
    → are_options known (map word_of words) ≡ (length words == 0)
are_options_over word_of known [] short = refl
are_options_over word_of known (name ∷ []) short = refl
are_options_over word_of known (name ∷ value ∷ words) short = absurd (omega arith)

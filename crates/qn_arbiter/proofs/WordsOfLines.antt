-- The words of a line, and lines that are joined of words.
use Rattle.std.proofs.Common.{◌≡◌, ◌*◌, ◌<◌, ◌≤◌, ◌==◌, ℕ, Bool, true, false, cond, List, [], ◌∷◌, length, refl, ap, ◌∙◌, arith}
use Rattle.std.specs.Prelude.{All}
use Rattle.std.specs.List.{join_with_byte, onto_first}
use Rattle.std.proofs.lemmas.List.{length-append}
use Rattle.std.proofs.lemmas.List.Elements.{All-cons}
use Rattle.std.proofs.lemmas.List.Splits.{slice_split_at, slice_split_none, length-slice_split}
use Rattle.qn_model.specs.Lines.{words_of}

-- words without a blank
abbrev pub AreBlankless : List (List ℕ) → Type 0
AreBlankless [] = Unit {0}
AreBlankless (word ∷ words) = All (λ b. (b == 32) ≡ false) word × AreBlankless words

onto_blankless : (b : ℕ) (words : List (List ℕ)) → (b == 32) ≡ false → AreBlankless words → AreBlankless (onto_first b words)
onto_blankless b [] other blankless = (All-cons (λ b. (b == 32) ≡ false) b [] other (λ k d inside. absurd (omega arith)), tt)
onto_blankless b (word ∷ words) other blankless = (All-cons (λ b. (b == 32) ≡ false) b word other blankless.0, blankless.1)

one_more : (b : ℕ) (words : List (List ℕ)) (test : Bool) → (b == 32) ≡ test → AreBlankless words → AreBlankless (cond test ([] ∷ words) (onto_first b words))
one_more b words true same blankless = (λ k d inside. absurd (omega arith), blankless)
one_more b words false other blankless = onto_blankless b words other blankless

-- the words of a line have none
pub words_blankless : (line : List ℕ) → AreBlankless (words_of line)
words_blankless [] = (λ k d inside. absurd (omega arith), tt)
words_blankless (b ∷ line) = one_more b (words_of line) (b == 32) refl (words_blankless line)

-- words without a blank are those of the line that is joined of them
pub words_joined : (word : List ℕ) (words : List (List ℕ)) → AreBlankless (word ∷ words) → words_of (join_with_byte 32 (word ∷ words)) ≡ word ∷ words
words_joined word [] blankless = slice_split_none (λ b. b == 32) word blankless.0
words_joined word (next ∷ words) blankless =
    slice_split_at (λ b. b == 32) word 32 (join_with_byte 32 (next ∷ words)) blankless.0 refl
    ∙ ap (λ ws. word ∷ ws) (words_joined next words blankless.1)

-- a line has a word
pub some_word : (line : List ℕ) → 0 < length (words_of line)
some_word line = omega (arith, length-slice_split (λ b. b == 32) line)

-- words of at most 41 bytes
abbrev pub AreShort : List (List ℕ) → Type 0
AreShort [] = Unit {0}
AreShort (word ∷ words) = (length word ≤ 41) × AreShort words

pub length_joined : (words : List (List ℕ)) → AreShort words → length (join_with_byte 32 words) ≤ 42 * length words
length_joined [] short = omega arith
length_joined (word ∷ []) short = let one = short.0 in omega (arith, one)
length_joined (word ∷ next ∷ words) short =
    let later = length_joined (next ∷ words) short.1 in
    let one = short.0 in
    let whole = length-append word (32 ∷ join_with_byte 32 (next ∷ words)) in
    omega (arith, whole, later, one)

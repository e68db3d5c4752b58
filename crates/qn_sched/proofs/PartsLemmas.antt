-- The parts of a text round a byte, at the first place where the byte stands.
use Rattle.std.proofs.Common.{◌≡◌, ◌+◌, ◌<◌, ◌≤◌, ◌==◌, ◌≢◌, ℕ, true, false, List, [], ◌∷◌, ◌++◌, length, take, drop, get_or, refl, sym, ap, ◌∙◌, subst, arith}
use Rattle.std.specs.Prelude.{All}
use Rattle.std.specs.List.{join_with_byte}
use Rattle.std.proofs.lemmas.List.{take-append-drop, drop_more, take_all, drop-drop, take_more}
use Rattle.std.proofs.lemmas.List.Splits.{slice_split_at, slice_split_none, length-slice_split}
use Rattle.std.proofs.lemmas.List.Elements.{All-push}
use Rattle.std.proofs.Common.{eq-eqb, ne_eqb}
use Rattle.std.specs.Prelude.{Err}
use Rattle.qn_model.specs.declared.line_fault.LineFault.TheVariants.{BadCount}
use Rattle.qn_model.specs.Lines.{parts, two_words}
use Rattle.qn_sched.specs.Words.{one_word, three_words}

-- cut at place i, where the byte stands and not before
pub parts-at : (byte : ℕ) (text : List ℕ) (i : ℕ) → i < length text → All (λ b. (b == byte) ≡ false) (take i text) → get_or text i 0 ≡ byte
    → parts byte text ≡ take i text ∷ parts byte (drop 1 (drop i text))
parts-at byte text i inside before here =
    ap (parts byte) (sym (take-append-drop i text) ∙ ap (λ rest. take i text ++ rest) (drop_more text i 0 inside))
    ∙ slice_split_at (λ b. b == byte) (take i text) (get_or text i 0) (drop (i + 1) text) before (eq-eqb (get_or text i 0) byte here)
    ∙ ap (λ rest. take i text ∷ parts byte rest) (sym (drop-drop 1 i text))

-- the byte is not there
pub parts-none : (byte : ℕ) (text : List ℕ) (i : ℕ) → length text ≤ i → All (λ b. (b == byte) ≡ false) (take i text) → parts byte text ≡ text ∷ []
parts-none byte text i past before =
    slice_split_none (λ b. b == byte) text (let P : List ℕ → Type 0 = All (λ b. (b == byte) ≡ false) in subst P (take_all i text past) before)

-- one more byte that is another
pub passed_more : (byte : ℕ) (text : List ℕ) (i : ℕ) → i < length text → All (λ b. (b == byte) ≡ false) (take i text) → get_or text i 0 ≢ byte
    → All (λ b. (b == byte) ≡ false) (take (i + 1) text)
passed_more byte text i inside before other =
    let P : List ℕ → Type 0 = All (λ b. (b == byte) ≡ false) in
    subst P (sym (take_more text i 0 inside)) (All-push (λ b. (b == byte) ≡ false) (take i text) (get_or text i 0) before (ne_eqb (get_or text i 0) byte other))

-- there is always a part
pub parts-some : (byte : ℕ) (text : List ℕ) → 0 < length (parts byte text)
parts-some byte text = omega (arith, length-slice_split (λ b. b == byte) text)

-- more than two words
pub two_words-more : (first second : List ℕ) (words : List (List ℕ)) → 0 < length words → two_words (first ∷ second ∷ words) ≡ Err BadCount
two_words-more first second [] some = absurd (omega arith)
two_words-more first second (third ∷ words) some = refl

-- more than one word
pub one_word-more : (first : List ℕ) (words : List (List ℕ)) → 0 < length words → one_word (first ∷ words) ≡ Err BadCount
one_word-more first [] some = absurd (omega arith)
one_word-more first (second ∷ words) some = refl

-- more than three words
pub three_words-more : (first second third : List ℕ) (words : List (List ℕ)) → 0 < length words → three_words (first ∷ second ∷ third ∷ words) ≡ Err BadCount
three_words-more first second third [] some = absurd (omega arith)
three_words-more first second third (fourth ∷ words) some = refl

-- words of which none has a byte
abbrev pub AreWithout : ℕ → List (List ℕ) → Type 0
AreWithout byte [] = Unit {0}
AreWithout byte (word ∷ words) = All (λ b. (b == byte) ≡ false) word × AreWithout byte words

-- words that were joined by a byte which none of them has
pub parts-joined : (byte : ℕ) → (byte == byte) ≡ true → (word : List ℕ) (words : List (List ℕ)) → AreWithout byte (word ∷ words)
    → parts byte (join_with_byte byte (word ∷ words)) ≡ word ∷ words
parts-joined byte same word [] without = slice_split_none (λ b. b == byte) word without.0
parts-joined byte same word (next ∷ words) without =
    slice_split_at (λ b. b == byte) word byte (join_with_byte byte (next ∷ words)) without.0 same
    ∙ ap (λ ws. word ∷ ws) (parts-joined byte same next words without.1)

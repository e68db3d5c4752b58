-- Steps of which each goes on with the value of the one before it, or stops at the first fault.
use Rattle.std.proofs.Common.{◌≡◌, ℕ, List, [], ◌∷◌, Result, Ok, Err, refl, subst}
use Rattle.qn_model.specs.declared.line_fault.LineFault.{LineFault}
use Rattle.qn_model.specs.Lines.{◌>>=◌, two_words}

-- a step that gave a value was taken at a value
pub bind_ok : {A B : Type 0} (r : Result A LineFault) (next : A → Result B LineFault) (b : B) → (r >>= next) ≡ Ok b
    → (a : A) × (r ≡ Ok a) × (next a ≡ Ok b)
bind_ok (Ok a) next b is = (a, refl, is)
bind_ok (Err fault) next b is = cc

abbrev pub good : {A : Type 0} → A → Result A LineFault
good a = Ok a

-- equal results have equal values
pub same_ok : {A : Type 0} (a b : A) → good a ≡ good b → a ≡ b
same_ok a b same = cc

-- the two words that were wanted of a line are all that it has
pub two_words-ok : (words : List (List ℕ)) (pair : List ℕ × List ℕ) → two_words words ≡ Ok pair
    → words ≡ pair.0 ∷ pair.1 ∷ []
two_words-ok [] pair is = cc
two_words-ok (first ∷ []) pair is = cc
two_words-ok (first ∷ second ∷ []) pair is =
    subst (λ (p : List ℕ × List ℕ). first ∷ second ∷ [] ≡ p.0 ∷ p.1 ∷ []) (same_ok (first, second) pair is) refl
two_words-ok (first ∷ second ∷ third ∷ words) pair is = cc

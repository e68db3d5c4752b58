-- The heaviest number that passes a test: it passes, none that passes weighs more, and where there is none nothing passes.
use Rattle.std.proofs.Common.{◌≡◌, ℕ, suc, zero, ◌<◌, ◌≤◌, Bool, true, false, Some, None, Option, refl, sym, ◌∙◌, arith, subst, ◌⊎◌, inl, inr}
use Rattle.std.specs.Prelude.{◌&&◌, if◌then◌else◌, is_none}
use Rattle.std.proofs.lemmas.Bool.{cases_lt, true≢false, ltb-true, ltb-false}
use Rattle.std.proofs.lemmas.Option.{none-some, same_Some}
use Rattle.qn_candidate.specs.Candidate.{heaviest, outweighs}

-- what is none is None
pub is_none-None : (found : Option ℕ) → is_none found ≡ true → found ≡ None
is_none-None None e = refl
is_none-None (Some n) e = absurd (true≢false (sym e))

passes_here : (test : ℕ → Bool) (count found : ℕ) (best : Option ℕ) (b over : Bool) → test count ≡ b
    → (best ≡ Some found → (test found ≡ true) × (found < count)) → (if b && over then Some count else best) ≡ Some found
    → (test found ≡ true) × (found < suc count)
passes_here test count found best true true here rest e =
    let same : count ≡ found = same_Some _ _ e in (subst (λ n. test n ≡ true) same here, omega arith)
passes_here test count found best true false here rest e =
    let parts = rest e in let below : found < count = parts.1 in (parts.0, omega arith)
passes_here test count found best false over here rest e =
    let parts = rest e in let below : found < count = parts.1 in (parts.0, omega arith)

-- the heaviest passes, and is among the numbers that were tried
pub heaviest_passes : (count : ℕ) (test : ℕ → Bool) (weight : ℕ → ℕ) (found : ℕ) → heaviest test weight count ≡ Some found
    → (test found ≡ true) × (found < count)
unfolding heaviest
heaviest_passes zero test weight found e = absurd (none-some found e)
heaviest_passes (suc count) test weight found e =
    passes_here test count found (heaviest test weight count) (test count) (outweighs weight (heaviest test weight count) count) refl
    (heaviest_passes count test weight found) e

none_here : (test : ℕ → Bool) (weight : ℕ → ℕ) (count : ℕ) (best : Option ℕ) (b over : Bool) → test count ≡ b → outweighs weight best count ≡ over
    → (if b && over then Some count else best) ≡ None → (test count ≡ false) × (best ≡ None)
none_here test weight count best true true here is e = absurd (none-some count (sym e))
none_here test weight count best true false here is e = absurd (true≢false (subst (λ o. outweighs weight o count ≡ false) e is))
none_here test weight count best false over here is e = (here, e)

-- where there is none nothing passes
pub heaviest_none : (count : ℕ) (test : ℕ → Bool) (weight : ℕ → ℕ) → heaviest test weight count ≡ None
    → (j : ℕ) → j < count → test j ≡ false
unfolding heaviest
heaviest_none zero test weight e j below = absurd (omega arith)
heaviest_none (suc count) test weight e j below =
    let parts = none_here test weight count (heaviest test weight count) (test count) (outweighs weight (heaviest test weight count) count) refl refl e in
    at_or_before (cases_lt j count) parts.0 (λ under. heaviest_none count test weight parts.1 j under)
  where
    at_or_before : (j < count) ⊎ (count ≤ j) → test count ≡ false → (j < count → test j ≡ false) → test j ≡ false
    at_or_before (inl under) here rest = rest under
    at_or_before (inr above) here rest = let same : count ≡ j = omega arith in subst (λ n. test n ≡ false) same here

most_here : (test : ℕ → Bool) (weight : ℕ → ℕ) (count found j : ℕ) (best : Option ℕ) (b over : Bool) → test count ≡ b → outweighs weight best count ≡ over
    → ((f : ℕ) → best ≡ Some f → j < count → weight j ≤ weight f) → (best ≡ None → j < count → test j ≡ false)
    → (if b && over then Some count else best) ≡ Some found → (j < count) ⊎ (j ≡ count) → test j ≡ true → weight j ≤ weight found
most_here test weight count found j None true true here is rest none e (inl under) passes = absurd (true≢false (subst (λ b. b ≡ false) passes (none refl under)))
most_here test weight count found j (Some f) true true here is rest none e (inl under) passes =
    let same : count ≡ found = same_Some _ _ e in
    let more : weight f < weight count = ltb-true _ _ is in
    let less : weight j ≤ weight f = rest f refl under in
    subst (λ n. weight j ≤ weight n) same (omega arith)
most_here test weight count found j best true true here is rest none e (inr at) passes =
    let same : j ≡ found = at ∙ same_Some _ _ e in subst (λ n. weight j ≤ weight n) same (omega arith)
most_here test weight count found j None true false here is rest none e place passes = absurd (true≢false is)
most_here test weight count found j (Some f) true false here is rest none e (inl under) passes =
    subst (λ n. weight j ≤ weight n) (same_Some _ _ e) (rest f refl under)
most_here test weight count found j (Some f) true false here is rest none e (inr at) passes =
    let more : weight count ≤ weight f = ltb-false _ _ is in
    subst (λ n. weight j ≤ weight n) (same_Some _ _ e) (subst (λ n. weight n ≤ weight f) (sym at) more)
most_here test weight count found j best false over here is rest none e (inl under) passes = rest found e under
most_here test weight count found j best false over here is rest none e (inr at) passes =
    absurd (true≢false (subst (λ b. b ≡ false) passes (subst (λ n. test n ≡ false) (sym at) here)))

-- none that passes weighs more
pub heaviest_most : (count : ℕ) (test : ℕ → Bool) (weight : ℕ → ℕ) (found : ℕ) → heaviest test weight count ≡ Some found
    → (j : ℕ) → j < count → test j ≡ true → weight j ≤ weight found
unfolding heaviest
heaviest_most zero test weight found e j below passes = absurd (omega arith)
heaviest_most (suc count) test weight found e j below passes =
    most_here test weight count found j (heaviest test weight count) (test count) (outweighs weight (heaviest test weight count) count) refl refl
    (λ f best under. heaviest_most count test weight f best j under passes)
    (λ none under. heaviest_none count test weight none j under)
    e (at_or_before (cases_lt j count)) passes
  where
    at_or_before : (j < count) ⊎ (count ≤ j) → (j < count) ⊎ (j ≡ count)
    at_or_before (inl under) = inl under
    at_or_before (inr above) = inr (omega arith)

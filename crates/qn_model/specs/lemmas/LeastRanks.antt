-- The least number that passes a test: it passes, none below it does, and where there is none nothing passes. Lemmas for the
-- proofs of this crate and of those above. This project's profile.
use Rattle.std.proofs.Common.{◌≡◌, ℕ, suc, zero, ◌+◌, ◌<◌, ◌≤◌, Bool, true, false, Some, None, Option, refl, sym, cond, arith, subst, ◌⊎◌, inl, inr}
use Rattle.std.proofs.lemmas.Bool.{cases_order}
use Rattle.qn_model.specs.Unmet.{least_from}
use Rattle.std.proofs.lemmas.Option.{none-some, same_Some}

passes_here : (test : ℕ → Bool) (from found : ℕ) (later : Option ℕ) (b : Bool) → test from ≡ b
    → (later ≡ Some found → test found ≡ true) → cond b (Some from) later ≡ Some found → test found ≡ true
passes_here test from found later true passed rest is = subst (λ n. test n ≡ true) (same_Some _ _ is) passed
passes_here test from found later false passed rest is = rest is

-- the least number that passes a test passes it
pub least_passes : (count from : ℕ) (test : ℕ → Bool) (found : ℕ) → least_from count from test ≡ Some found
    → test found ≡ true
unfolding least_from
least_passes zero from test found e = absurd (none-some found e)
least_passes (suc count) from test found e =
    passes_here test from found (least_from count (from + 1) test) (test from) refl (least_passes count (from + 1) test found) e

none_here : (test : ℕ → Bool) (from : ℕ) (later : Option ℕ) (b : Bool) → test from ≡ b → cond b (Some from) later ≡ None
    → (test from ≡ false) × (later ≡ None)
none_here test from later true passed e = absurd (none-some from (sym e))
none_here test from later false refused e = (refused, e)

-- where there is none nothing passes
pub least_none : (count from : ℕ) (test : ℕ → Bool) → least_from count from test ≡ None
    → (j : ℕ) → from ≤ j → j < from + count → test j ≡ false
unfolding least_from
least_none zero from test e j above below = absurd (omega arith)
least_none (suc count) from test e j above below =
    let parts = none_here test from (least_from count (from + 1) test) (test from) refl e in
    at_or_behind (cases_order from j) parts.0 (λ past. least_none count (from + 1) test parts.1 j (omega arith) (omega arith))
  where
    at_or_behind : (from ≡ j) ⊎ ((from < j) ⊎ (j < from)) → test from ≡ false → (from < j → test j ≡ false)
        → test j ≡ false
    at_or_behind (inl same) here rest = subst (λ n. test n ≡ false) same here
    at_or_behind (inr (inl past)) here rest = rest past
    at_or_behind (inr (inr behind)) here rest = absurd (omega arith)

least_at : (test : ℕ → Bool) (from found j : ℕ) (later : Option ℕ) (b : Bool) → test from ≡ b
    → cond b (Some from) later ≡ Some found
    → from ≤ j → j < found → (from < j → later ≡ Some found → test j ≡ false) → test j ≡ false
least_at test from found j later true passed e above below rest =
    let same : from ≡ found = same_Some _ _ e in absurd (omega arith)
least_at test from found j later false refused e above below rest = at_or_behind (cases_order from j)
  where
    at_or_behind : (from ≡ j) ⊎ ((from < j) ⊎ (j < from)) → test j ≡ false
    at_or_behind (inl same) = subst (λ n. test n ≡ false) same refused
    at_or_behind (inr (inl past)) = rest past e
    at_or_behind (inr (inr behind)) = absurd (omega arith)

-- no smaller number passes
pub least_below : (count from : ℕ) (test : ℕ → Bool) (found : ℕ) → least_from count from test ≡ Some found
    → (j : ℕ) → from ≤ j → j < found → test j ≡ false
unfolding least_from
least_below zero from test found e j above below = absurd (none-some found e)
least_below (suc count) from test found e j above below =
    least_at test from found j (least_from count (from + 1) test) (test from) refl e above below
    (λ past rest. least_below count (from + 1) test found rest j (omega arith) below)

bound_here : (from found below : ℕ) (later : Option ℕ) (b : Bool) → from < below → cond b (Some from) later ≡ Some found
    → (later ≡ Some found → found < below) → found < below
bound_here from found below later true under e rest = let same : from ≡ found = same_Some _ _ e in omega arith
bound_here from found below later false under e rest = rest e

-- it is among the numbers that were tried
pub least_bound : (count from : ℕ) (test : ℕ → Bool) (found : ℕ) → least_from count from test ≡ Some found
    → found < from + count
unfolding least_from
least_bound zero from test found e = absurd (none-some found e)
least_bound (suc count) from test found e =
    bound_here from found (from + suc count) (least_from count (from + 1) test) (test from) (omega arith) e
    (λ rest. let under = least_bound count (from + 1) test found rest in omega arith)

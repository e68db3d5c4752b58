-- Laws of the least number that passes a test: by what is known of it, and read off a mask. This project's profile.
use Rattle.std.proofs.Common.{◌≡◌, ℕ, suc, zero, ◌+◌, ◌<◌, ◌≤◌, Bool, true, false, Some, None, refl, cond, ap, sym, ◌∙◌, arith, ◌⊎◌, inl, inr, subst}
use Rattle.std.proofs.lemmas.Bool.{cases_lt}
use Rattle.std.specs.Prelude.{Option, IfSome, IfNone}
use Rattle.std.specs.Option.{option_map}
use Rattle.qn_base.specs.declared.ids.Rank.{Rank}
use Rattle.qn_base.specs.declared.ids.Mask.{Mask}
use Rattle.qn_base.specs.Members.{is_member}
use Rattle.qn_model.specs.Unmet.{least_from}

-- where nothing passes there is no least number
pub least_from-none : (count from : ℕ) (test : ℕ → Bool)
    → ((j : ℕ) → from ≤ j → j < from + count → test j ≡ false) → least_from count from test ≡ None
unfolding least_from
least_from-none zero from test none = refl
least_from-none (suc count) from test none =
    let here : test from ≡ false = none from (omega arith) (omega arith) in
    rw here (least_from-none count (from + 1) test (λ j above below. none j (omega arith) (omega arith)))

-- the first of two numbers passes and is the one, or it does not and the one comes later
some_here : (from found : ℕ) (test : ℕ → Bool) (later : Option ℕ) → test found ≡ true → (from < found) ⊎ (found ≤ from)
    → (from < found → test from ≡ false) → (from < found → later ≡ Some found) → from ≤ found
    → cond (test from) (Some from) later ≡ Some found
some_here from found test later passes (inl past) refused rest above = rw (refused past) (rest past)
some_here from found test later passes (inr here) refused rest above =
    let same : found ≡ from = omega arith in rw (subst (λ j. test j ≡ true) same passes) (ap Some (sym same))

-- a number that passes, with none below it that does, is the least
pub least_from-some : (count from found : ℕ) (test : ℕ → Bool)
    → from ≤ found → found < from + count → test found ≡ true → ((j : ℕ) → from ≤ j → j < found → test j ≡ false)
    → least_from count from test ≡ Some found
unfolding least_from
least_from-some zero from found test above below passes least = absurd (omega arith)
least_from-some (suc count) from found test above below passes least =
    some_here from found test (least_from count (from + 1) test) passes (cases_lt from found)
    (λ past. least from (omega arith) past)
    (λ past. least_from-some count (from + 1) found test (omega arith) (omega arith) passes (λ j over under. least j (omega arith) under))
    above

-- tests that agree have the same least number
pub least_from-same : (count from : ℕ) (first second : ℕ → Bool)
    → ((j : ℕ) → from ≤ j → j < from + count → first j ≡ second j) → least_from count from first ≡ least_from count from second
unfolding least_from
least_from-same zero from first second same = refl
least_from-same (suc count) from first second same =
    let here : first from ≡ second from = same from (omega arith) (omega arith) in
    rw here (ap (λ later. cond (second from) (Some from) later) (least_from-same count (from + 1) first second (λ j above below. same j (omega arith) (omega arith))))

-- a rank that passes a test, with none below it that does, is the least one
pub found-least : (count : ℕ) (test : ℕ → Bool) (found : Option Rank)
    → IfSome found (λ rank. rank.0 < count) → IfSome found (λ rank. test rank.0 ≡ true)
    → IfSome found (λ rank. (j : ℕ) → j < rank.0 → test j ≡ false)
    → IfNone found ((j : ℕ) → j < count → test j ≡ false)
    → option_map (λ rank. rank.0) found ≡ least_from count 0 test
found-least count test None within passes least none = sym (least_from-none count 0 test (λ j above below. none j (omega arith)))
found-least count test (Some rank) within passes least none =
    sym (least_from-some count 0 rank.0 test (omega arith) (omega arith) passes (λ j above below. least j below))

-- the first member of a mask is the least rank that passes a test, where the test agrees with the mask
pub first-least : (mask : Mask) (count : ℕ) (test : ℕ → Bool) (first : Option Rank)
    → IfSome first (λ rank. rank.0 < count) → IfSome first (λ rank. is_member mask rank.0 ≡ true)
    → IfSome first (λ rank. (j : ℕ) → j < rank.0 → is_member mask j ≡ false)
    → IfNone first ((j : ℕ) → j < count → is_member mask j ≡ false)
    → ((j : ℕ) → j < count → is_member mask j ≡ test j)
    → option_map (λ rank. rank.0) first ≡ least_from count 0 test
first-least mask count test None within member least none same =
    sym (least_from-none count 0 test (λ j above below. sym (same j (omega arith)) ∙ none j (omega arith)))
first-least mask count test (Some rank) within member least none same =
    sym (least_from-some count 0 rank.0 test (omega arith) (omega arith) (sym (same rank.0 within) ∙ member)
    (λ j above below. sym (same j (omega arith)) ∙ least j below))

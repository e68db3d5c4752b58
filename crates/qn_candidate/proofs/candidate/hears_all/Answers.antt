use Rattle.std.proofs.Common.{◌≡◌, ℕ, Bool, true, false, Option, None, Some, refl, sym, ap, ap₂, ◌∙◌, arith, subst, ◌<◌, ◌≤◌, ◌⊎◌, inl, inr, ◌+◌, ◌&&◌, not}
use Rattle.std.specs.Prelude.{is_none}
use Rattle.std.proofs.lemmas.Bool.{and_left, and_right, cases_lt, true≢false}
use Rattle.qn_base.specs.Members.{is_member}
use Rattle.qn_model.specs.LeastMembers.{least_from-none}
use Rattle.qn_model.specs.lemmas.LeastRanks.{least_none}
use Rattle.qn_model.specs.Unmet.{least_from}
use Rattle.qn_candidate.specs.Candidate.{is_unmet, meets}
use Rattle.qn_candidate.proofs.candidate.hears_all.Goals as goal
use Rattle.qn_candidate.proofs.candidate.hears_all.Goals.{else-has-via-then-has+else-not-meets, else-has-via-else-has}

-- where none below a number passes, and it does not, none up to it passes
up_to : (test : ℕ → Bool) (count j : ℕ) → ((k : ℕ) → k < count → test k ≡ false) → test count ≡ false → j < count + 1 → test j ≡ false
up_to test count j before here below = at_or_before (cases_lt j count)
  where
    at_or_before : (j < count) ⊎ (count ≤ j) → test j ≡ false
    at_or_before (inl under) = before j under
    at_or_before (inr over) = let same : count ≡ j = omega arith in subst (λ n. test n ≡ false) same here

-- one that is missed is found
found_by : (found : Option ℕ) → (found ≡ None → ⊥) → false ≡ is_none found
found_by None some = absurd (some refl)
found_by (Some n) some = refl

pub loop-other-preserved : goal.loop-other-preserved
loop-other-preserved c =
    let f = c.args.facts.now in
    let members = c.args.members in
    let rank = c.args.rank.0 in
    let other = c.loop-other.other in
    let seen = is_member members other && is_member f.sees other in
    λ j below.
    up_to (is_unmet f members rank) other j c.loop-other.invariant
    (elim c.else-has.branch [
      | else-has-via-then-has+else-not-meets w ↦ and_right seen (not (meets f rank other)) (ap not (sym w.meets.ensures ∙ w.if-not-meets.false))
      | else-has-via-else-has w ↦ and_left seen (not (meets f rank other)) (sym (c.both-seen.ensures other) ∙ (sym c.has.ensures ∙ w.if-has.false))
    ])
    below

pub returns-then-not-meets : goal.returns-then-not-meets
returns-then-not-meets c =
    let f = c.args.facts.now in
    let members = c.args.members in
    let rank = c.args.rank.0 in
    let other = c.loop-other.other in
    let seen : (is_member members other && is_member f.sees other) ≡ true = sym (c.both-seen.ensures other) ∙ (sym c.has.ensures ∙ c.if-has.true) in
    let unmet : is_unmet f members rank other ≡ true = ap₂ (λ a b. a && not b) seen (sym c.meets.ensures ∙ c.if-not-meets.true) in
    found_by (least_from 32 0 (is_unmet f members rank))
    (λ none. true≢false (sym unmet ∙ least_none 32 0 (is_unmet f members rank) none other (omega arith) (omega arith)))

pub returns : goal.returns
returns c =
    sym (ap is_none (least_from-none 32 0 (is_unmet c.args.facts.now c.args.members c.args.rank.0)
    (λ j above below. c.loop-other.invariant j (let past = c.loop-other-test.false in omega arith))))

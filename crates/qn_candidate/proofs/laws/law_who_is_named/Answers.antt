use Rattle.std.proofs.Common.{◌≡◌, ℕ, Bool, true, false, Some, None, Option, refl, arith, subst, inl, inr, slice_index, ◌<◌, ◌⊎◌}
use Rattle.std.specs.Prelude.{◌&&◌, ◌||◌, not, is_none, is_some, nat_lt, if◌then◌else◌}
use Rattle.std.specs.Option.{option_or}
use Rattle.std.proofs.lemmas.Option.{none-some, same_Some}
use Rattle.qn_base.specs.Members.{is_member}
use Rattle.qn_base.specs.declared.ids.Mask.{Mask}
use Rattle.qn_base.specs.declared.ids.Rank.{Rank}
use Rattle.qn_base.specs.lemmas.Bools.{first_of_both, second_of_both}
use Rattle.qn_model.specs.lemmas.LeastRanks.{least_bound, least_passes}
use Rattle.qn_candidate.specs.declared.candidate.Facts.{Facts}
use Rattle.qn_candidate.specs.declared.candidate.Name.TheVariants as name
use Rattle.qn_candidate.specs.Candidate.{best_of, can, hears_all, holder_of, holder_stays, kept, kept_beside, name_of, named_again, puller, unknowing}
use Rattle.qn_candidate.specs.Laws.{IsRight}
use Rattle.qn_candidate.proofs.Heaviest.{heaviest_none, heaviest_passes, is_none-None}
use Rattle.qn_candidate.proofs.laws.law_who_is_named.Goals as goal

-- one that can is rightly named
able_right : (f : Facts) (members : Mask) (named : Option Rank) (rank : ℕ) → can f members rank ≡ true → IsRight f members named (name.One (record { 0 = rank }))
able_right f members named rank able = (
  first_of_both (is_member members rank && not (is_member f.barred rank)) (not (is_member f.unfit rank))
      (first_of_both (is_member members rank && not (is_member f.barred rank) && not (is_member f.unfit rank)) (hears_all f members rank) able),
  inl able,
)

-- a holder that stays is fit, or nobody can
free_by : (f : Facts) (members : Mask) (rank : ℕ) (unfit : Bool) → is_member f.unfit rank ≡ unfit → (not unfit || is_none (best_of f members)) ≡ true
    → (is_member f.unfit rank ≡ false) ⊎ ((j : ℕ) → j < 32 → can f members j ≡ false)
free_by f members rank false fit stays = inl fit
free_by f members rank true fit stays =
    inr (heaviest_none 32 (λ j. can f members j) (λ j. slice_index f.weights j) (is_none-None (best_of f members) stays))

stays_by : (f : Facts) (members : Mask) (named : Option Rank) (rank found : ℕ) (b : Bool) → holder_of f members named ≡ Some rank
    → holder_stays f members rank ≡ b → (if b then Some rank else None) ≡ Some found
    → IsRight f members named (name.One (record { 0 = found }))
stays_by f members named rank found true holder stays e =
    let inside = is_member members rank && not (is_member f.barred rank) in
    let free = not (is_member f.unfit rank) || is_none (best_of f members) in
    subst (λ n. IsRight f members named (name.One (record { 0 = n }))) (same_Some _ _ e)
    (first_of_both inside free stays, inr (holder, free_by f members rank (is_member f.unfit rank) refl (second_of_both inside free stays)))
stays_by f members named rank found false holder stays e = absurd (none-some found e)

again_by : (f : Facts) (members : Mask) (named rank : ℕ) (b : Bool) → (nat_lt named 32 && can f members named) ≡ b → (if b then Some named else None) ≡ Some rank
    → can f members rank ≡ true
again_by f members named rank true is e = subst (λ n. can f members n ≡ true) (same_Some _ _ e) (second_of_both (nat_lt named 32) (can f members named) is)
again_by f members named rank false is e = absurd (none-some rank e)

-- who is named again can
again_can : (f : Facts) (members : Mask) (named : Option Rank) (rank : ℕ) → named_again f members named ≡ Some rank → can f members rank ≡ true
again_can f members None rank e = absurd (none-some rank e)
again_can f members (Some named) rank e = again_by f members named.0 rank (nat_lt named.0 32 && can f members named.0) refl e

kept_by : (f : Facts) (members : Mask) (named : Option Rank) (holder : Option ℕ) (found : ℕ) → holder_of f members named ≡ holder
    → kept_beside f members named holder ≡ Some found → IsRight f members named (name.One (record { 0 = found }))
kept_by f members named None found holder e = able_right f members named found (again_can f members named found e)
kept_by f members named (Some rank) found holder e = stays_by f members named rank found (holder_stays f members rank) holder refl e

-- who is kept is rightly named
kept_right : (f : Facts) (members : Mask) (named : Option Rank) (found : ℕ) → kept f members named ≡ Some found
    → IsRight f members named (name.One (record { 0 = found }))
kept_right f members named found e = kept_by f members named (holder_of f members named) found refl e

right : (f : Facts) (members : Mask) (named : Option Rank) (unknown pulls keeps best : Option ℕ)
    → unknowing f members ≡ unknown → puller f members ≡ pulls → kept f members named ≡ keeps → best_of f members ≡ best
    → IsRight f members named (if is_some unknown then name.Least else name_of (option_or pulls (option_or keeps best)))
right f members named (Some rank) pulls keeps best u p k b =
    let test = λ (j : ℕ). is_member members j && not (is_member f.knows j) in
    let below = least_bound 32 0 test rank u in
    (rank, omega arith, least_passes 32 0 test rank u)
right f members named None (Some rank) keeps best u p k b =
    able_right f members named rank
    (first_of_both (can f members rank) (is_member f.pulls rank) (least_passes 32 0 (λ j. can f members j && is_member f.pulls j) rank p))
right f members named None None (Some rank) best u p k b = kept_right f members named rank k
right f members named None None None (Some rank) u p k b =
    able_right f members named rank (heaviest_passes 32 (λ j. can f members j) (λ j. slice_index f.weights j) rank b).0
right f members named None None None None u p k b = heaviest_none 32 (λ j. can f members j) (λ j. slice_index f.weights j) b

pub returns : goal.returns
returns c = λ f members named.
    right f members named (unknowing f members) (puller f members) (kept f members named) (best_of f members) refl refl refl refl

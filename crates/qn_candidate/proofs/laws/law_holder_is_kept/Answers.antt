use Rattle.std.proofs.Common.{◌≡◌, ℕ, Bool, true, false, Option, None, Some, refl, sym, ap, ◌∙◌}
use Rattle.std.specs.Prelude.{is_some, if◌then◌else◌}
use Rattle.std.specs.Option.{option_map, option_map_or, option_or}
use Rattle.std.proofs.lemmas.Bool.{false≢true}
use Rattle.std.proofs.lemmas.Option.{same_Some}
use Rattle.qn_base.specs.Members.{is_member}
use Rattle.qn_base.specs.declared.ids.Mask.{Mask}
use Rattle.qn_base.specs.declared.ids.Rank.{Rank}
use Rattle.qn_base.specs.lemmas.Bools.{first_of_both}
use Rattle.qn_model.specs.Unmet.{least_from}
use Rattle.qn_model.specs.lemmas.LeastRanks.{least_passes}
use Rattle.qn_candidate.specs.declared.candidate.Facts.{Facts}
use Rattle.qn_candidate.specs.declared.candidate.Name.TheVariants as name
use Rattle.qn_candidate.specs.Candidate.{best_of, holder_of, holder_stays, is_holding, kept, kept_beside, name_of, puller}
use Rattle.qn_candidate.proofs.laws.law_holder_is_kept.Goals as goal

-- the holder is a member
inside_by : (f : Facts) (members : Mask) (named : Option Rank) (rank : ℕ) (b : Bool)
    → option_map_or (λ named. is_holding f members named.0) named false ≡ b
    → (if b then option_map (λ named. named.0) named else least_from 32 0 (is_holding f members)) ≡ Some rank
    → is_holding f members rank ≡ true
inside_by f members named rank false is e = least_passes 32 0 (is_holding f members) rank e
inside_by f members None rank true is e = absurd (false≢true is)
inside_by f members (Some found) rank true is e = ap (is_holding f members) (sym (same_Some _ _ e)) ∙ is

inside : (f : Facts) (members : Mask) (named : Option Rank) (rank : ℕ) → holder_of f members named ≡ Some rank → is_member members rank ≡ true
inside f members named rank e =
    first_of_both (is_member members rank) (is_member f.holds rank)
    (inside_by f members named rank (option_map_or (λ named. is_holding f members named.0) named false) refl e)

stays : (f : Facts) (members : Mask) (rank : ℕ) → is_member members rank ≡ true → is_member f.barred rank ≡ false → is_member f.unfit rank ≡ false
    → holder_stays f members rank ≡ true
stays f members rank inside barred unfit = rw (inside, barred, unfit) refl

pub returns : goal.returns
returns c = λ f members named rank known pulls holder barred unfit.
    let here : kept f members named ≡ Some rank =
    ap (kept_beside f members named) holder
    ∙ ap (λ (b : Bool). if b then Some rank else None) (stays f members rank (inside f members named rank holder) barred unfit) in
    ap (λ (o : Option ℕ). if is_some o then name.Least else name_of (option_or (puller f members) (option_or (kept f members named) (best_of f members)))) known
    ∙ ap (λ (o : Option ℕ). name_of (option_or o (option_or (kept f members named) (best_of f members)))) pulls
    ∙ ap (λ (o : Option ℕ). name_of (option_or o (best_of f members))) here

use Rattle.std.proofs.Common.{◌≡◌, Bool, true, false, refl, sym, arith}
use Rattle.std.specs.Prelude.{◌&&◌, not}
use Rattle.std.proofs.lemmas.Bool.{false≢true}
use Rattle.qn_base.specs.Members.{is_member}
use Rattle.qn_base.specs.lemmas.Bools.{second_of_both}
use Rattle.qn_model.specs.lemmas.LeastRanks.{least_none}
use Rattle.qn_model.specs.Unmet.{least_from}
use Rattle.qn_candidate.proofs.Heaviest.{is_none-None}
use Rattle.qn_candidate.specs.Candidate.{hears_all, is_unmet, meets}
use Rattle.qn_candidate.proofs.laws.law_who_can_meets_all.Goals as goal

-- a member that is seen and is not one that is missed is met
met : (member seen meets : Bool) → member ≡ true → seen ≡ true → (member && seen && not meets) ≡ false → meets ≡ true
met true true true m s e = refl
met true true false m s e = absurd (false≢true (sym e))
met true false meets m s e = absurd (false≢true s)
met false seen meets m s e = absurd (false≢true m)

pub returns : goal.returns
returns c = λ f members rank other can below member seen.
    let all : hears_all f members rank ≡ true =
    second_of_both (is_member members rank && not (is_member f.barred rank) && not (is_member f.unfit rank)) (hears_all f members rank) can in
    met (is_member members other) (is_member f.sees other) (meets f rank other) member seen
    (least_none 32 0 (is_unmet f members rank) (is_none-None (least_from 32 0 (is_unmet f members rank)) all) other (omega arith) (omega arith))

use Rattle.std.proofs.Common.{◌≡◌, ℕ, zero, suc, ◌<◌, Bool, refl, ap₂, ◌∙◌, arith, slice_index}
use Rattle.qn_base.specs.Members.{is_member}
use Rattle.qn_candidate.specs.Candidate.{can, heaviest, outweighs}
use Rattle.std.specs.Prelude.{Some, if◌then◌else◌, ◌&&◌}
use Rattle.qn_candidate.proofs.candidate.best_of.Goals as goal

-- tests that agree have the same heaviest number
heaviest-same : (count : ℕ) (first second : ℕ → Bool) (weight : ℕ → ℕ) → ((j : ℕ) → j < count → first j ≡ second j)
    → heaviest first weight count ≡ heaviest second weight count
unfolding heaviest
heaviest-same zero first second weight same = refl
heaviest-same (suc count) first second weight same =
    ap₂ (λ (b : Bool) best. if b && outweighs weight best count then Some count else best) (same count (omega arith))
    (heaviest-same count first second weight (λ j below. same j (omega arith)))

pub returns : goal.returns
returns c =
    let f = c.args.facts.now in
    c.heaviest_of.ensures
    ∙ heaviest-same 32 (λ rank. is_member c.able.result rank) (λ rank. can f c.args.members rank) (λ rank. slice_index f.weights rank) (λ j below. c.able.ensures j below)

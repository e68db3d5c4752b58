use Rattle.std.proofs.Common.{slice_index}
use Rattle.qn_candidate.specs.Candidate.{can}
use Rattle.qn_candidate.proofs.Heaviest.{heaviest_most, heaviest_passes}
use Rattle.qn_candidate.proofs.laws.law_best_is_heaviest.Goals as goal

pub returns : goal.returns
returns c = λ f members rank is. (
  (heaviest_passes 32 (λ j. can f members j) (λ j. slice_index f.weights j) rank is).0,
  heaviest_most 32 (λ j. can f members j) (λ j. slice_index f.weights j) rank is,
)

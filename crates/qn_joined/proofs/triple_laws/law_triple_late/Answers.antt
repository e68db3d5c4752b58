use Rattle.qn_joined.proofs.TripleMoves.{late_on_three}
use Rattle.qn_joined.proofs.triple_laws.law_triple_late.Goals as goal

pub returns : goal.returns
returns c = λ s t rank image number. late_on_three s t rank image number

use Rattle.qn_joined.proofs.TripleMoves.{passes_on_three}
use Rattle.qn_joined.proofs.triple_laws.law_triple_passes.Goals as goal

pub returns : goal.returns
returns c = λ s t dt clocks. passes_on_three s t dt clocks

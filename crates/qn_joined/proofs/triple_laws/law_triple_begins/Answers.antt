use Rattle.qn_joined.proofs.TripleMoves.{begins_on_three}
use Rattle.qn_joined.proofs.triple_laws.law_triple_begins.Goals as goal

pub returns : goal.returns
returns c = λ s t rank clean leave polls turns. begins_on_three s t rank clean leave polls turns

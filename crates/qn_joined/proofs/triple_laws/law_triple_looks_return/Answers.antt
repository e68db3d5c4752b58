use Rattle.qn_joined.proofs.TripleLooks.{looks_again_on_three}
use Rattle.qn_joined.proofs.triple_laws.law_triple_looks_return.Goals as goal

pub returns : goal.returns
returns c = λ s t rank made. looks_again_on_three s t (c.law_triple_nodes.ensures s t) (c.law_triple_calls.ensures s t) rank made

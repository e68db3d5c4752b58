use Rattle.qn_joined.proofs.TripleBoots.{looks_on_three}
use Rattle.qn_joined.proofs.triple_laws.law_triple_looks.Goals as goal

pub returns : goal.returns
returns c = λ s t rank base. looks_on_three s t (c.law_triple_nodes.ensures s t) rank base

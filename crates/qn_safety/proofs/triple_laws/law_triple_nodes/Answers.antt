use Rattle.qn_safety.proofs.TripleNodes.{triple_nodes_hold}
use Rattle.qn_safety.proofs.triple_laws.law_triple_nodes.Goals as goal

pub returns : goal.returns
returns c = triple_nodes_hold

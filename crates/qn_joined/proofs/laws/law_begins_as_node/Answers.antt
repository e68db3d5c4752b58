use Rattle.qn_joined.proofs.Boots.{begins_as_node}
use Rattle.qn_joined.proofs.laws.law_begins_as_node.Goals as goal

pub returns : goal.returns
returns c = begins_as_node

use Rattle.qn_joined.proofs.Boots.{boots_in_world}
use Rattle.qn_joined.proofs.laws.law_boots_in_world.Goals as goal

pub returns : goal.returns
returns c = λ s t. boots_in_world s t (c.law_node_logs.ensures s t)

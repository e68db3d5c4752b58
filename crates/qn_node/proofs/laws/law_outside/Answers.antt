use Rattle.qn_node.proofs.Outside.{wanted_outside}
use Rattle.qn_node.proofs.laws.law_outside.Goals as goal

pub returns : goal.returns
returns c = λ s me log. wanted_outside s log me (c.law_outside.ensures s log)

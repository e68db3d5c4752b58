use Rattle.std.proofs.Common.{◌∙◌}
use Rattle.qn_node.proofs.Stages.{holds_at}
use Rattle.qn_node.proofs.node.Node.holds.Goals as goal

pub returns : goal.returns
returns c = λ s me log h. c.holds.ensures ∙ holds_at c.args.self.now.stage s me log h.stands

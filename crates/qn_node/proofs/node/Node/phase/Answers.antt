use Rattle.std.proofs.Common.{◌∙◌}
use Rattle.qn_node.proofs.Stages.{phase_at}
use Rattle.qn_node.proofs.node.Node.phase.Goals as goal

pub returns-clause-exact : goal.returns-clause-exact
returns-clause-exact c = λ s me log h. c.phase.ensures ∙ phase_at c.args.self.now.stage s me log h.stands

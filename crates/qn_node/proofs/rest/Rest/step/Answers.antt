use Rattle.qn_node.proofs.RestSteps.{rest_stands}
use Rattle.qn_node.proofs.rest.Rest.step.Goals as goal

pub returns : goal.returns
returns c = λ s me log h. rw c.after_entry.ensures (rest_stands c.args.self s me log c.args.tick c.args.what h)

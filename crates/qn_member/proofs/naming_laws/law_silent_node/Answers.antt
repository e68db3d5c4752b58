use Rattle.qn_member.proofs.Silent.{is_plain_after}
use Rattle.qn_member.proofs.naming_laws.law_silent_node.Goals as goal

pub returns : goal.returns
returns c = λ s me loop_ms calls. is_plain_after s me loop_ms calls

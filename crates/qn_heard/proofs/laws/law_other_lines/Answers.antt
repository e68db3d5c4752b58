use Rattle.qn_heard.proofs.Steps.{heard_other}
use Rattle.qn_heard.proofs.laws.law_other_lines.Goals as goal

pub returns : goal.returns
returns c = heard_other

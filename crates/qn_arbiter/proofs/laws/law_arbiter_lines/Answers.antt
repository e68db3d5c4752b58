use Rattle.qn_arbiter.proofs.EventSpelling.{arbiter_spelled}
use Rattle.qn_arbiter.proofs.laws.law_arbiter_lines.Goals as goal

pub returns : goal.returns
returns c = arbiter_spelled c.law_event_lines.ensures

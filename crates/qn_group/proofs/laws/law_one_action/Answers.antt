use Rattle.qn_group.proofs.Kept.{one_action, unstopped-begun}
use Rattle.qn_group.proofs.laws.law_one_action.Goals as goal

pub returns-clause-later : goal.returns-clause-later
returns-clause-later c = one_action

pub returns-clause-at_once : goal.returns-clause-at_once
returns-clause-at_once c = unstopped-begun

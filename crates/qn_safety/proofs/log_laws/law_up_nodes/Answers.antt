use Rattle.qn_safety.proofs.UpNodes.{up_times, cleared_boots}
use Rattle.qn_safety.proofs.log_laws.law_up_nodes.Goals as goal

pub returns-clause-times : goal.returns-clause-times
returns-clause-times c = up_times

pub returns-clause-cleared : goal.returns-clause-cleared
returns-clause-cleared c = cleared_boots

use Rattle.qn_safety.proofs.NodeLogs.{logs_hold}
use Rattle.qn_safety.proofs.log_laws.law_node_logs.Goals as goal

pub returns : goal.returns
returns c = logs_hold

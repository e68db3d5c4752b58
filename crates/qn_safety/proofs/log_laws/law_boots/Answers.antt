use Rattle.qn_safety.proofs.LogMoves.{time_le, boots_never_fall, log_grows, incarnation_stays}
use Rattle.qn_safety.proofs.log_laws.law_boots.Goals as goal

pub returns-clause-time : goal.returns-clause-time
returns-clause-time c = time_le

pub returns-clause-count : goal.returns-clause-count
returns-clause-count c = boots_never_fall

pub returns-clause-log : goal.returns-clause-log
returns-clause-log c = log_grows

pub returns-clause-incarnation : goal.returns-clause-incarnation
returns-clause-incarnation c = incarnation_stays

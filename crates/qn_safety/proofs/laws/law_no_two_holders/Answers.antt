use Rattle.qn_safety.proofs.Holders.{one_holder}
use Rattle.qn_safety.proofs.Incarnations.{one_reported}
use Rattle.qn_safety.proofs.laws.law_no_two_holders.Goals as goal

pub returns-clause-nodes : goal.returns-clause-nodes
returns-clause-nodes c = one_holder

pub returns-clause-reported : goal.returns-clause-reported
returns-clause-reported c = one_reported

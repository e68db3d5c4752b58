use Rattle.qn_safety.proofs.TripleHolders.{one_triple_holder, one_triple_reported}
use Rattle.qn_safety.proofs.triple_laws.law_triple_no_two_holders.Goals as goal

pub returns-clause-nodes : goal.returns-clause-nodes
returns-clause-nodes c = one_triple_holder

pub returns-clause-reported : goal.returns-clause-reported
returns-clause-reported c = one_triple_reported

use Rattle.qn_audit.proofs.log_place.LogPlace.judge.Goals as goal

pub returns-in-Line-clause-end : goal.returns-in-Line-clause-end
returns-in-Line-clause-end c = rw c.in-Line.is c.take.ensures.end

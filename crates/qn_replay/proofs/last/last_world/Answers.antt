use Rattle.qn_replay.proofs.LastEnds.{last_complete, last_unread}
use Rattle.qn_replay.proofs.last.last_world.Goals as goal

pub returns-clause-complete : goal.returns-clause-complete
returns-clause-complete g c = λ no_failure memory. last_complete _ _ _ _ c.run_silent.ensures.reaches no_failure memory

pub returns-clause-read_fault : goal.returns-clause-read_fault
returns-clause-read_fault g c = λ fault. last_unread _ _ _ _ c.run_silent.ensures.reaches fault

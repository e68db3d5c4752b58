use Rattle.qn_safety.proofs.TripleHolders.{triple_run_timed}
use Rattle.qn_safety.proofs.triple_laws.law_triple_runs_are_timed.Goals as goal

pub returns : goal.returns
returns c = triple_run_timed

use Rattle.qn_safety.proofs.ArbiterHolding.{run_timed_beside}
use Rattle.qn_safety.proofs.arbiter_laws.law_runs_beside_are_timed.Goals as goal

pub returns : goal.returns
returns c = run_timed_beside

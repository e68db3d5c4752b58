use Rattle.qn_safety.proofs.Holders.{run_timed}
use Rattle.qn_safety.proofs.laws.law_runs_are_timed.Goals as goal

pub returns : goal.returns
returns c = run_timed

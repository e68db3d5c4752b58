use Rattle.qn_safety.proofs.Holders.{any_run_timed}
use Rattle.qn_safety.proofs.laws.law_any_runs_are_timed.Goals as goal

pub returns : goal.returns
returns c = any_run_timed

use Rattle.qn_safety.proofs.Pairs.{at_most_one}
use Rattle.qn_safety.proofs.laws.law_timed_runs.Goals as goal

pub returns : goal.returns
returns c = λ s t moments now i j safe run until first second. at_most_one run safe now until i j first second

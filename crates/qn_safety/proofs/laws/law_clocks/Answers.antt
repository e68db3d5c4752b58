use Rattle.qn_safety.proofs.Runs.{ruled_before, span}
use Rattle.qn_safety.proofs.laws.law_clocks.Goals as goal

pub returns-clause-slow : goal.returns-clause-slow
returns-clause-slow c = λ s t moments old new rank timed runs. (span rank (ruled_before runs.back timed.ruled) runs.order runs.same runs.on).slow

pub returns-clause-fast : goal.returns-clause-fast
returns-clause-fast c = λ s t moments old new rank timed runs. (span rank (ruled_before runs.back timed.ruled) runs.order runs.same runs.on).fast

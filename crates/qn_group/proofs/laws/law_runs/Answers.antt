use Rattle.std.proofs.Common.{refl}
use Rattle.qn_group.proofs.Runs.{Run-more}
use Rattle.qn_group.proofs.laws.law_runs.Goals as goal

pub returns-clause-none : goal.returns-clause-none
returns-clause-none c = λ group. refl

pub returns-clause-more : goal.returns-clause-more
returns-clause-more c = Run-more

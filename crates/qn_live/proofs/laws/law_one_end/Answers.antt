use Rattle.qn_base.specs.PlanSteps.{one_end, no_longer}
use Rattle.qn_live.specs.Runs.{live_plan}
use Rattle.qn_live.proofs.laws.law_one_end.Goals as goal

pub returns-clause-one : goal.returns-clause-one
returns-clause-one c = λ s me clean leave polls turns calls ran other first second.
    one_end (live_plan s me clean leave polls turns) calls ran other first second

pub returns-clause-once : goal.returns-clause-once
returns-clause-once c = λ s me clean leave polls turns calls call more ran other first second.
    no_longer (live_plan s me clean leave polls turns) calls call more ran other first second

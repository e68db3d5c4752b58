use Rattle.qn_base.specs.PlanSteps.{one_end, no_longer}
use Rattle.qn_live.specs.TripleRuns.{triple_plan}
use Rattle.qn_live.proofs.triple_laws.law_triple_end.Goals as goal

pub returns-clause-one : goal.returns-clause-one
returns-clause-one c = λ s me clean leave polls turns calls ran other first second.
    one_end (triple_plan s me clean leave polls turns) calls ran other first second

pub returns-clause-once : goal.returns-clause-once
returns-clause-once c = λ s me clean leave polls turns calls call more ran other first second.
    no_longer (triple_plan s me clean leave polls turns) calls call more ran other first second

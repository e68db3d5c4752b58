use Rattle.qn_boot.proofs.BootSteps.{begin_stands}
use Rattle.qn_boot.proofs.steps.Boot+WantHeader.begin.Goals as goal

pub returns-clause-stands : goal.returns-clause-stands
returns-clause-stands c = λ s me tick count. begin_stands s me tick c.args.nodes count c.args.clean

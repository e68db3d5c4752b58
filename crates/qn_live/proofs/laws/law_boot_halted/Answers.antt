use Rattle.qn_live.specs.EndLaws.{halted_by}
use Rattle.qn_live.proofs.laws.law_boot_halted.Goals as goal

pub returns : goal.returns
returns c = λ s me clean leave polls turns calls ran cause follows is failure. halted_by s me clean leave polls turns calls ran follows cause is failure

use Rattle.qn_live.proofs.Telling.{outputs_in_order}
use Rattle.qn_live.proofs.laws.law_outputs.Goals as goal

pub returns : goal.returns
returns c = λ s me clean leave polls turns calls ran follows. outputs_in_order s me clean leave polls turns calls ran follows

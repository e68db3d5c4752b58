use Rattle.qn_model.proofs.Release.{released_first}
use Rattle.qn_model.proofs.laws.law_released_first.Goals as goal

pub returns : goal.returns
returns c = released_first

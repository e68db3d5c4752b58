use Rattle.qn_model.proofs.Resets.{reset_outside}
use Rattle.qn_model.proofs.laws.law_reset_outside.Goals as goal

pub returns-clause-outside : goal.returns-clause-outside
returns-clause-outside c = λ s me history rank there. let may = reset_outside s me history rank there in (may.0, may.1)

pub returns-clause-delayed : goal.returns-clause-delayed
returns-clause-delayed c = λ s me history rank there. (reset_outside s me history rank there).2

use Rattle.qn_safety.proofs.ArbiterHolding.{one_holder_beside}
use Rattle.qn_safety.proofs.arbiter_laws.law_one_holder_beside.Goals as goal

pub returns : goal.returns
returns c = one_holder_beside

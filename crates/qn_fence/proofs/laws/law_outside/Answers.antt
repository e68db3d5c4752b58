use Rattle.qn_fence.proofs.Outside.{fencing_outside}
use Rattle.qn_fence.proofs.laws.law_outside.Goals as goal

pub returns : goal.returns
returns c = fencing_outside

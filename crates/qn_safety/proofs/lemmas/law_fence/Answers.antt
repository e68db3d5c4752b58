use Rattle.qn_safety.proofs.FenceAndTells.{written_ends}
use Rattle.qn_safety.proofs.lemmas.law_fence.Goals as goal

pub returns : goal.returns
returns c = written_ends

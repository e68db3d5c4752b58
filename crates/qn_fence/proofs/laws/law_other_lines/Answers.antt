use Rattle.qn_fence.proofs.Steps.{fence_other}
use Rattle.qn_fence.proofs.laws.law_other_lines.Goals as goal

pub returns : goal.returns
returns c = fence_other

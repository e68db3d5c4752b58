use Rattle.qn_safety.proofs.FenceAndTells.{tell_says}
use Rattle.qn_safety.proofs.lemmas.law_tells.Goals as goal

pub returns : goal.returns
returns c = tell_says

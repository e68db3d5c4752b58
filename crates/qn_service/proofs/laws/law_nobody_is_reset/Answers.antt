use Rattle.qn_service.proofs.Resets.{nobody_reset}
use Rattle.qn_service.proofs.laws.law_nobody_is_reset.Goals as goal

pub returns : goal.returns
returns c = nobody_reset

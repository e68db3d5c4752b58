use Rattle.qn_service.proofs.Resets.{resets_unheard}
use Rattle.qn_service.proofs.laws.law_resets_the_unheard.Goals as goal

pub returns : goal.returns
returns c = resets_unheard

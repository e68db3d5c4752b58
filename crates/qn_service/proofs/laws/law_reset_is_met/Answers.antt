use Rattle.qn_service.proofs.Rows.{reset_is_met}
use Rattle.qn_service.proofs.laws.law_reset_is_met.Goals as goal

pub returns : goal.returns
returns c = reset_is_met

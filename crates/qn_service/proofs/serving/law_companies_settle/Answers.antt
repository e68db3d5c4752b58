use Rattle.qn_service.proofs.NextLooks.{companies_settle}
use Rattle.qn_service.proofs.serving.law_companies_settle.Goals as goal

pub returns : goal.returns
returns c = companies_settle

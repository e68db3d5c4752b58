use Rattle.qn_service.proofs.LogViews.{companies_are_shown}
use Rattle.qn_service.proofs.serving.law_companies_are_shown.Goals as goal

pub returns : goal.returns
returns c = companies_are_shown

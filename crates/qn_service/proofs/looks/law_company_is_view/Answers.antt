use Rattle.qn_service.proofs.Company.{company_is_view}
use Rattle.qn_service.proofs.looks.law_company_is_view.Goals as goal

pub returns : goal.returns
returns c = company_is_view

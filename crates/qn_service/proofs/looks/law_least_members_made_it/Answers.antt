use Rattle.qn_service.proofs.Least.{least_made}
use Rattle.qn_service.proofs.looks.law_least_members_made_it.Goals as goal

pub returns : goal.returns
returns c = λ m tick view under unnamed found least.
    record { leads = least_made c.law_leads.ensures m tick view under unnamed found least; gives = found }

use Rattle.qn_service.proofs.Least.{keeps_view, view_stays}
use Rattle.qn_service.proofs.looks.law_views_stay.Goals as goal

pub returns-clause-none : goal.returns-clause-none
returns-clause-none c = λ m tick leads present kept. view_stays m tick leads present kept

pub returns-clause-stays : goal.returns-clause-stays
returns-clause-stays c = λ m tick none. keeps_view m tick none

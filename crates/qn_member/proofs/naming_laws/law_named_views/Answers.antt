use Rattle.qn_member.proofs.NamedViews.{own_number}
use Rattle.qn_member.proofs.naming_laws.law_named_views.Goals as goal

pub returns : goal.returns
returns c = λ m tick view own leads found. own_number m tick view own leads found

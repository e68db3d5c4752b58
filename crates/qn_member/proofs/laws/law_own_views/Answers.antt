use Rattle.qn_member.proofs.Owning.{own_views_by_calls}
use Rattle.qn_member.proofs.laws.law_own_views.Goals as goal

pub returns : goal.returns
returns c = λ run tick view. own_views_by_calls run tick view

use Rattle.qn_member.proofs.Calls.{first_view_by_calls}
use Rattle.qn_member.proofs.laws.law_first_view.Goals as goal

pub returns : goal.returns
returns c = λ run tick view none some. first_view_by_calls run tick view none some

use Rattle.qn_member.proofs.Follows.{takes_view}
use Rattle.qn_member.proofs.laws.law_follows.Goals as goal

pub returns : goal.returns
returns c = λ run tick leader view leads other announced has_me has_leader may. takes_view run tick leader view leads other announced has_me has_leader may

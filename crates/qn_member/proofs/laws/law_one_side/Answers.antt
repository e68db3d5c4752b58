use Rattle.qn_member.proofs.Follows.{one_side}
use Rattle.qn_member.proofs.laws.law_one_side.Goals as goal

pub returns : goal.returns
returns c = λ one other tick other_tick rank a b said. one_side one other tick other_tick rank a b said

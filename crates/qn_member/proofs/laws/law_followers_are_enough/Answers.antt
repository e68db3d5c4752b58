use Rattle.qn_member.proofs.Follows.{side_enough}
use Rattle.qn_member.proofs.laws.law_followers_are_enough.Goals as goal

pub returns : goal.returns
returns c = λ run tick others looks few leads able follow. side_enough run tick others looks few leads able follow

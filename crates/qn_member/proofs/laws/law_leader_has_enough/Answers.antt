use Rattle.qn_member.proofs.Follows.{company_enough}
use Rattle.qn_member.proofs.laws.law_leader_has_enough.Goals as goal

pub returns : goal.returns
returns c = λ run tick leads able led. company_enough run tick leads able led

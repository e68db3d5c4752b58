use Rattle.qn_member.proofs.Follows.{leads_how}
use Rattle.qn_member.proofs.laws.law_leads.Goals as goal

pub returns : goal.returns
returns c = λ m leader leads. leads_how m leader leads

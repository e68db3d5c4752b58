use Rattle.qn_heard.proofs.Members.{asks_by_members}
use Rattle.qn_heard.proofs.laws.law_asks_by_members.Goals as goal

pub returns : goal.returns
returns c = asks_by_members

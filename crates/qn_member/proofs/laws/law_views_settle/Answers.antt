use Rattle.qn_member.proofs.Settles.{settles}
use Rattle.qn_member.proofs.laws.law_views_settle.Goals as goal

pub returns : goal.returns
returns c = λ run since tick company steady. settles run since tick company steady

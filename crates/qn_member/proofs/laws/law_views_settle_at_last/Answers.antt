use Rattle.qn_member.proofs.Lasting.{settles_at_last}
use Rattle.qn_member.proofs.laws.law_views_settle_at_last.Goals as goal

pub returns : goal.returns
returns c = λ run since mid tick company few lasting. settles_at_last run since mid tick company few lasting

use Rattle.qn_live.proofs.Handing.{hands_history}
use Rattle.qn_live.proofs.laws.law_handed_history.Goals as goal

pub returns : goal.returns
returns c = hands_history

use Rattle.qn_tie.proofs.Keeping.{other_stands}
use Rattle.qn_tie.proofs.laws.law_tie_stays.Goals as goal

pub returns : goal.returns
returns c = other_stands

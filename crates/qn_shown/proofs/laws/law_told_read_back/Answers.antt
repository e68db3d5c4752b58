use Rattle.qn_shown.proofs.Tellings.{told_back}
use Rattle.qn_shown.proofs.laws.law_told_read_back.Goals as goal

pub returns : goal.returns
returns c = told_back

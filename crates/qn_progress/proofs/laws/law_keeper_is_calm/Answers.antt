use Rattle.qn_progress.proofs.Keeping.{keeper_calm}
use Rattle.qn_progress.proofs.laws.law_keeper_is_calm.Goals as goal

pub returns : goal.returns
returns c = λ s rank old new keeps. keeper_calm keeps

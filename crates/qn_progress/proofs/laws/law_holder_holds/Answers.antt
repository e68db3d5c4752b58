use Rattle.qn_progress.proofs.Keeping.{holder_holds}
use Rattle.qn_progress.proofs.laws.law_holder_holds.Goals as goal

pub returns : goal.returns
returns c = λ s rank old new keeps held. holder_holds keeps held

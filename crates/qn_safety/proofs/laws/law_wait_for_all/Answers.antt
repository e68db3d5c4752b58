use Rattle.qn_safety.proofs.WaitForAll.{quorate_saw_all}
use Rattle.qn_safety.proofs.laws.law_wait_for_all.Goals as goal

pub returns : goal.returns
returns c = quorate_saw_all

use Rattle.qn_safety.proofs.Premises.{one_after_another}
use Rattle.qn_safety.proofs.laws.law_premises_are_met.Goals as goal

pub returns : goal.returns
returns c = one_after_another

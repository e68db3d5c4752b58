use Rattle.qn_safety.proofs.Holders.{one_may_hold}
use Rattle.qn_safety.proofs.laws.law_any_numbers.Goals as goal

pub returns : goal.returns
returns c = one_may_hold

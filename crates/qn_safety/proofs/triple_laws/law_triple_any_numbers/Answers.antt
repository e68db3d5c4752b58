use Rattle.qn_safety.proofs.TripleHolders.{one_may_hold_triple}
use Rattle.qn_safety.proofs.triple_laws.law_triple_any_numbers.Goals as goal

pub returns : goal.returns
returns c = one_may_hold_triple

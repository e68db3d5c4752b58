use Rattle.qn_safety.proofs.TriplePremises.{one_after_another_on_two}
use Rattle.qn_safety.proofs.triple_laws.law_triple_premises_are_met.Goals as goal

pub returns : goal.returns
returns c = one_after_another_on_two

use Rattle.qn_joined.proofs.TripleRows.{one_after_another_on_three}
use Rattle.qn_joined.proofs.triple_laws.law_triple_joints_are_met.Goals as goal

pub returns : goal.returns
returns c = one_after_another_on_three

use Rattle.qn_tie.proofs.Premises.{one_half_goes_on}
use Rattle.qn_tie.proofs.laws.law_tie_premises_are_met.Goals as goal

pub returns : goal.returns
returns c = one_half_goes_on

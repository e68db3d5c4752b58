use Rattle.qn_joined.proofs.TripleStands.{triple_begins, triple_goes_on}
use Rattle.qn_joined.proofs.triple_laws.law_triple_stands.Goals as goal

pub returns : goal.returns
returns c = record { begins = triple_begins; goes_on = triple_goes_on }

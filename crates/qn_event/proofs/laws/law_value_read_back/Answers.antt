use Rattle.qn_event.proofs.ValuesBack.{value_back}
use Rattle.qn_event.proofs.laws.law_value_read_back.Goals as goal

pub returns : goal.returns
returns c = value_back

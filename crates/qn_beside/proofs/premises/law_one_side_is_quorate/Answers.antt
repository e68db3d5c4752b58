use Rattle.qn_beside.proofs.MetRows.{one_side_is_quorate}
use Rattle.qn_beside.proofs.premises.law_one_side_is_quorate.Goals as goal

pub returns : goal.returns
returns c = one_side_is_quorate

use Rattle.qn_beside.proofs.FasterRows.{broken_by_faster_clock}
use Rattle.qn_beside.proofs.premises.law_faster_clock_breaks_it.Goals as goal

pub returns : goal.returns
returns c = broken_by_faster_clock

use Rattle.qn_live.proofs.Writes.{write_told}
use Rattle.qn_live.proofs.triple_laws.law_triple_writes.Goals as goal

pub returns : goal.returns
returns c = write_told

use Rattle.qn_audit.proofs.ReadBack.{reads_back}
use Rattle.qn_audit.proofs.laws.law_lines_read_back.Goals as goal

pub returns : goal.returns
returns c = reads_back

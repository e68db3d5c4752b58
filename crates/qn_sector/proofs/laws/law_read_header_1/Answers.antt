use Rattle.qn_sector.proofs.HeaderSpelling.{header_in-spells}
use Rattle.qn_sector.proofs.laws.law_read_header_1.Goals as goal

pub returns : goal.returns
returns c = header_in-spells 1

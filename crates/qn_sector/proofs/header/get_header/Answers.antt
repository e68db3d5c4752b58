use Rattle.qn_sector.proofs.HeaderSpelling.{header_found, no_header_found}
use Rattle.qn_sector.proofs.header.get_header.Goals as goal

pub returns-clause-some : goal.returns-clause-some
returns-clause-some c = header_found 2 _ _ c.read_header.ensures

pub returns-clause-none : goal.returns-clause-none
returns-clause-none c = no_header_found 2 _ _ c.read_header.ensures

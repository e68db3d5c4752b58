use Rattle.qn_cluster.proofs.SectorSteps.{new_sectors}
use Rattle.qn_cluster.proofs.sectors.Sectors.new.Goals as goal

pub returns : goal.returns
returns c = new_sectors

use Rattle.qn_service.proofs.WellRows.{owner_is_well}
use Rattle.qn_service.proofs.owners.law_owner_is_well.Goals as goal

pub returns : goal.returns
returns c = owner_is_well

use Rattle.qn_joined.proofs.OwnerRows.{owner_is_reset}
use Rattle.qn_joined.proofs.laws.law_owner_is_reset.Goals as goal

pub returns : goal.returns
returns c = owner_is_reset

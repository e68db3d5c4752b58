use Rattle.qn_image.proofs.Created.{stopped}
use Rattle.qn_image.proofs.laws.law_stopped_creation.Goals as goal

pub returns : goal.returns
returns c = stopped

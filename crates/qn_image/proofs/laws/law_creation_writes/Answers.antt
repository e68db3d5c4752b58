use Rattle.qn_image.proofs.Tried.{tried_creation, no_creation}
use Rattle.qn_image.proofs.laws.law_creation_writes.Goals as goal

pub returns-clause-safe : goal.returns-clause-safe
returns-clause-safe c = tried_creation

pub returns-clause-unsafe_timing : goal.returns-clause-unsafe_timing
returns-clause-unsafe_timing c = no_creation

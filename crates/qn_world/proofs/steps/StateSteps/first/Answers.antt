use Rattle.std.proofs.Common.{refl}
use Rattle.qn_world.proofs.FirstWorld.{first_stands}
use Rattle.qn_world.proofs.steps.StateSteps.first.Goals as goal

pub returns-clause-first : goal.returns-clause-first
returns-clause-first c = first_stands _ c.requires.safe c.in_ok-cluster.ensures.stands refl c.new-2.ensures c.new-3.ensures

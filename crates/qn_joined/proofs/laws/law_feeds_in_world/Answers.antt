use Rattle.qn_joined.proofs.Boots.{feeds_in_world}
use Rattle.qn_joined.proofs.laws.law_feeds_in_world.Goals as goal

pub returns : goal.returns
returns c = feeds_in_world

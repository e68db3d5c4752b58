use Rattle.qn_cluster.specs.WorldStepLaws.{none_reached}
use Rattle.qn_cluster.proofs.world.World.new.Goals as goal

pub invariant_of-result : goal.invariant_of-result
invariant_of-result g c = none_reached g.S.HasNodes.kind g.met.S.HasNodes.is_lawful c.in_ok-state.state c.in_ok-state.ensures.first

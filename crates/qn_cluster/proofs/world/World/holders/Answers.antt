use Rattle.qn_cluster.specs.WorldStepLaws.{one_holds}
use Rattle.qn_cluster.proofs.world.World.holders.Goals as goal

pub returns-clause-one_holder : goal.returns-clause-one_holder
returns-clause-one_holder g c =
    one_holds g.S.HasNodes.kind g.met.S.HasNodes.is_lawful c.law_one_holds.ensures c.self.inside.state c.self.invariant c.holders.result c.holders.ensures

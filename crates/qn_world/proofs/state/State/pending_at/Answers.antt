use Rattle.std.proofs.Common.{◌≡◌, ap}
use Rattle.qn_cluster.specs.Seen.{waiting_of}
use Rattle.qn_cluster.specs.WorldStepLaws.{of_same_nodes}
use Rattle.qn_model.specs.Moments.{node}
use Rattle.qn_world.specs.Whole.{cluster_of}
use Rattle.qn_world.proofs.EventSteps.{took_same}
use Rattle.qn_world.proofs.Looks.{pending-parts}
use Rattle.qn_world.proofs.state.State.pending_at.Goals as goal

pub returns : goal.returns
returns c d is =
    let waits = of_same_nodes (λ n moments. c.waiting-waiting.result ≡ waiting_of (node n.settings c.args.i.0 moments)) (ap cluster_of c.self.view_is)
    c.waiting-waiting.ensures d.moments is.cluster in
    pending-parts c.args.self.now.settings c.args.i.0 d c.waiting-waiting.result c.took-took.result c.is_some.result c.has_landed.result
    waits (took_same c.args.self.now c.args.i.0 c.took-took.result c.requires.few c.took-took.ensures d is)
    c.is_some.ensures c.has_landed.ensures

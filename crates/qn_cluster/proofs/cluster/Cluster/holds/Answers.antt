use Rattle.qn_model.specs.Moments.{node}
use Rattle.qn_cluster.proofs.cluster.Cluster.holds.Goals as goal

pub returns : goal.returns
returns c = λ d is.
    let rank = c.args.i.0 in
    let s = c.args.self.now.settings in
    c.holds.ensures.exact s rank (node s rank d) (is.nodes rank c.seat.result.now c.seat.ensures)

use Rattle.qn_cluster.proofs.Lists.{item_there}
use Rattle.qn_cluster.proofs.PassSteps.{end_stepped}
use Rattle.qn_cluster.proofs.cluster.Cluster.end.Goals as goal

pub returns : goal.returns
returns c =
    let there = item_there c.args.self.now.seats c.args.i.0 c.requires in
    end_stepped c.args.self.now c.switch_off.new.self c.args.i.0 there.0 there.1 (c.switch_off.ensures there.0 there.1)

use Rattle.qn_cluster.proofs.Lists.{item_there}
use Rattle.qn_cluster.proofs.PassSteps.{feed_stepped}
use Rattle.qn_cluster.proofs.cluster.Cluster.feed.Goals as goal

pub returns : goal.returns
returns c =
    let there = item_there c.args.self.now.seats c.args.i.0 c.requires in
    feed_stepped c.args.self.now c.take_feed.new.self c.args.i.0 there.0 there.1 (c.take_feed.ensures there.0 there.1)

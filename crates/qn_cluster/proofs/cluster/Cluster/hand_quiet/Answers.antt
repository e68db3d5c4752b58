use Rattle.qn_cluster.proofs.Lists.{item_there}
use Rattle.qn_cluster.proofs.HandSteps.{quiet_world}
use Rattle.qn_cluster.proofs.cluster.Cluster.hand_quiet.Goals as goal

pub returns : goal.returns
returns c =
    let there = item_there c.args.self.now.seats c.args.i.0 c.requires.within in
    let made = c.hand_seat.ensures there.0 there.1 in
    quiet_world c.args.self.now c.hand_seat.new.self c.args.i.0 there.0 made.0 c.args.what c.hand_seat.new.outs there.1 c.requires.room made.2
    (λ s me n seat on. c.requires.quiet there.0 s me n there.1 seat on) made.1

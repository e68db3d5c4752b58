use Rattle.qn_cluster.proofs.ClusterSteps.{counts_more, fresh_more}
use Rattle.qn_cluster.proofs.first.seats_of.Goals as goal

pub loop-rank-preserved : goal.loop-rank-preserved
loop-rank-preserved c =
    record {
      count = counts_more c.loop-rank.seats.items c.push.new.self.items c.off.result c.loop-rank.rank c.loop-rank.invariant.count c.in-Ok.ensures.items;
      fresh = fresh_more c.loop-rank.seats.items c.push.new.self.items c.off.result c.loop-rank.invariant.fresh c.off.ensures c.in-Ok.ensures.items;
    }

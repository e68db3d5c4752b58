use Rattle.std.proofs.Common.{◌+◌, ◌-◌, length, arith}
use Rattle.qn_plain.proofs.Asking.{asks_more}
use Rattle.qn_plain.proofs.past.Past.push_asks_under.Goals as goal

pub loop-rank-preserved : goal.loop-rank-preserved
loop-rank-preserved c = record {
  rest =
      asks_more c.args.me.0 c.args.self.now c.args.present c.loop-rank.rank
      (length c.args.settings.now.nodes - c.loop-rank.rank) (length c.args.settings.now.nodes - (c.loop-rank.rank + 1))
      c.is_asked-asked.result c.ask.result c.loop-rank.outs c.push_if.new.outs _
      (omega arith) c.is_asked-asked.ensures c.ask.ensures c.push_if.ensures.adds c.loop-rank.invariant.rest;
  few = omega arith;
}

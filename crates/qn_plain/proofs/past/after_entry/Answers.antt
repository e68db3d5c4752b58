use Rattle.std.proofs.Common.{length-set, ◌∙◌, arith}
use Rattle.qn_plain.proofs.Peers.{told_more, told_none}
use Rattle.qn_plain.proofs.past.after_entry.Goals as goal

pub loop-rank-init : goal.loop-rank-init
loop-rank-init c = record { all = c.told-peers; told = told_none c.args.reading.now c.args.peers.now }

pub loop-rank-preserved : goal.loop-rank-preserved
loop-rank-preserved c = record {
  all = length-set c.loop-rank.peers c.from-place.result c.after.result ∙ c.loop-rank.invariant.all;
  told = told_more c.args.reading.now c.args.peers.now c.loop-rank.peers c.loop-rank.rank c.from-place.result c.after.result (omega arith) (omega arith) c.after.ensures c.loop-rank.invariant.told;
}

use Rattle.std.proofs.Common.{◌≡◌, drop}
use Rattle.qn_model.specs.Moments.{advance_of}
use Rattle.qn_cluster.proofs.clocks.advance_of.Given as goal

abbrev pub invariant-loop-clock : goal.invariant-loop-clock
invariant-loop-clock l = record {
  same : l.clock-items ≡ l.clocks;
  found : advance_of l.dt l.clocks l.rank.0 ≡ advance_of l.dt (drop l.clock-index l.clock-items) l.rank.0;
}

use Rattle.std.proofs.Common.{◌≡◌, ◌≤◌, length}
use Rattle.std.specs.Prelude.{take}
use Rattle.qn_cluster.specs.DiskStanding.{left_of}
use Rattle.qn_cluster.proofs.leftovers.count_of.Given as goal

abbrev pub invariant-loop-leftover : goal.invariant-loop-leftover
invariant-loop-leftover l = record {
  counted : l.count ≡ length (left_of l.i.0 l.image (take l.leftover-index l.left));
  few : l.count ≤ l.leftover-index;
}

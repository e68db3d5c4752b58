use Rattle.std.proofs.Common.{◌≡◌, ◌++◌}
use Rattle.qn_cluster.specs.Places.{marked_on}
use Rattle.qn_cluster.proofs.leftovers.leave_all.Given as goal

abbrev pub invariant-loop-image : goal.invariant-loop-image
invariant-loop-image l = l.left.items ≡ l.fn.left.items ++ marked_on l.i l.op l.on l.image

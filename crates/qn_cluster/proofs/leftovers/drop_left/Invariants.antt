use Rattle.std.proofs.Common.{◌≡◌, ◌-◌, ◌++◌, take, drop, vec_len}
use Rattle.qn_cluster.specs.Places.{others_of}
use Rattle.qn_cluster.proofs.leftovers.drop_left.Given as goal

abbrev pub invariant-loop-place : goal.invariant-loop-place
invariant-loop-place l = take l.place l.left.items ++ others_of l.i.0 (drop l.place l.left.items) ≡ others_of l.i.0 l.fn.left.items

abbrev pub decreases-loop-place : goal.decreases-loop-place
decreases-loop-place l = vec_len l.left - l.place

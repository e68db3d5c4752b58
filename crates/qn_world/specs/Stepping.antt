-- What a call that steps the world promises.
use Rattle.std.specs.Prelude.{◌≡◌, ◌++◌, ℕ, List, length, take}
use Rattle.qn_cluster.specs.Stepping.{Handed, Unhanded}
pub use Rattle.qn_cluster.specs.WorldSteps.{RefusedBy}
use Rattle.qn_model.specs.declared.entries.What.{What}
use Rattle.qn_model.specs.declared.outputs.DiskOp.{DiskOp}
use Rattle.qn_model.specs.declared.outputs.Out.{Out}
use Rattle.qn_model.specs.World.{World, put}
use Rattle.qn_world.specs.Standing.{WorldFor}
use Rattle.qn_world.specs.Whole.{Whole, cluster_of, with_nodes}

-- writes of a rank were left over, after the leftovers that were there, and nothing else changed
pub record LeavesOver (old new : Whole) (rank : ℕ) (ops : List DiskOp) : Type 0 where
  pub rest : new ≡ record old { left = new.left }
  pub first : take (length old.left) new.left ≡ old.left
  pub stands : (d : World) → WorldFor old d → WorldFor new (record d { left = put d.left rank (d.left rank ++ ops) })

-- a running node was handed an entry, and the disk is as it was
pub record Hands (old new : Whole) (rank : ℕ) (entry : What) (outs : List Out) : Type 0 where
  pub disk : new ≡ with_nodes old (cluster_of new)
  pub hands : Handed (cluster_of old) (cluster_of new) rank entry outs

-- there was no memory for what a node sends
pub record HandsNot (old new : Whole) (rank : ℕ) (entry : What) : Type 0 where
  pub same : new ≡ old
  pub hands : Unhanded (cluster_of old) (cluster_of new) rank entry

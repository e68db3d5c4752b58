-- What is pending at a node of the world.
use Rattle.std.specs.Prelude.{ℕ, Bool, None, ◌&&◌, is_some, if◌then◌else◌}
use Rattle.qn_model.specs.declared.configuration.Settings.{Settings}
use Rattle.qn_model.specs.Holding.{stop_due}
use Rattle.qn_model.specs.Log.{op_out}
use Rattle.qn_model.specs.Moments.{Running}
use Rattle.qn_model.specs.World.{World, node_at}
use Rattle.qn_world.specs.declared.pending.Pending.{Pending}

-- an operation is out
abbrev pub is_op_out : Running → Bool
is_op_out node = node.on && is_some (op_out node.log)

-- what is pending at the node of a rank
abbrev pub pending_of : Settings → ℕ → World → Pending
pending_of s rank w =
    let node = node_at s rank w in
    record {
      running = node.on;
      fed = (if node.on then node.fed else 0);
      decided = (if node.on then node.decided else None);
      out = is_op_out node;
      landed = is_op_out node && is_some (w.took rank);
      stop_due = node.on && stop_due node.log;
    }

-- What a world shows of one node.
use Rattle.std.specs.Prelude.{ℕ, None, length, ◌&&◌, is_some, if◌then◌else◌}
use Rattle.qn_model.specs.declared.configuration.Settings.{Settings}
use Rattle.qn_model.specs.Holding.{stop_due}
use Rattle.qn_model.specs.Moments.{is_holder}
use Rattle.qn_model.specs.Steps.{answer_now, why_now}
use Rattle.qn_model.specs.World.{World, node_at}
use Rattle.qn_world.specs.declared.looking.NodeSeen.{NodeSeen}
pub use Rattle.qn_cluster.specs.Seen.{IsConfigured, blank_report, phase_now, polls_now, report_at, tick_now}
pub use Rattle.qn_world.specs.Pending.{is_op_out}

-- what a world shows of the node of a rank
abbrev pub seen_of : Settings → ℕ → World → NodeSeen
seen_of s rank w =
    let node = node_at s rank w in
    record {
      running = node.on;
      phase = phase_now s node;
      fed = (if node.on then node.fed else 0);
      decided = (if node.on then node.decided else None);
      out = is_op_out node;
      landed = is_op_out node && is_some (w.took rank);
      stop_due = node.on && stop_due node.log;
      leftovers = length (w.left rank);
      answer = answer_now s node;
      why = why_now s rank node;
      holds = is_holder s w.moments rank;
    }

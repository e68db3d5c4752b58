-- What the status says of each node of a world: this project's profile.
use Rattle.std.specs.Prelude.{ℕ, List, length, map}
use Rattle.std.specs.List.{range_with_len}
use Rattle.qn_model.specs.declared.configuration.Settings.{Settings}
use Rattle.qn_model.specs.Moments.{is_holder}
use Rattle.qn_model.specs.Steps.{answer_now, why_now}
use Rattle.qn_model.specs.Unmet.{id_of}
use Rattle.qn_model.specs.World.{World, node_at}
use Rattle.qn_world.specs.Seen.{phase_now}
use Rattle.qn_status.specs.declared.node_state.NodeState.{NodeState}

-- the node of a rank, at its present tick
abbrev pub node_state : Settings → World → ℕ → NodeState
node_state s w rank =
    record {
      id = id_of s rank;
      phase = phase_now s (node_at s rank w);
      holds = is_holder s w.moments rank;
      answer = answer_now s (node_at s rank w);
      why = why_now s rank (node_at s rank w);
    }

-- the nodes in ascending id
unfoldable pub node_states : Settings → World → List NodeState
node_states s w = map (node_state s w) (range_with_len 0 (length s.nodes))

use Rattle.std.proofs.Common.{◌≡◌, ◌≤◌, map, length}
use Rattle.std.specs.List.{range_with_len}
use Rattle.qn_model.specs.World.{World}
use Rattle.qn_world.specs.Standing.{WorldFor}
use Rattle.qn_status.specs.NodeStates.{node_state}
use Rattle.qn_status.proofs.status.node_states.Given as goal

abbrev pub invariant-ranks : goal.invariant-ranks
invariant-ranks l = record {
  listed : (d : World) → WorldFor l.world d → l.nodes.items ≡ map (node_state l.world.settings d) (range_with_len 0 l.rank);
  count : length l.nodes.items ≡ l.rank;
  few : l.rank-end ≤ 32;
  all : l.rank-end ≡ length l.world.settings.nodes;
}

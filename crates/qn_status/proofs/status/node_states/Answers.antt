use Rattle.std.proofs.Common.{arith}
use Rattle.qn_status.specs.NodeStates.{node_state}
use Rattle.qn_status.proofs.Ranks.{states_more}
use Rattle.qn_status.proofs.status.node_states.Goals as goal

pub ranks-preserved : goal.ranks-preserved
ranks-preserved c = record {
  listed = λ d stands.
      states_more (node_state c.args.world.now.settings d) c.ranks.nodes.items _ c.ranks.rank c.node_state.result (c.ranks.invariant.listed d stands)
      (c.node_state.ensures d stands) c.push.ensures.items;
  count = omega arith;
  few = c.ranks.invariant.few;
  all = c.ranks.invariant.all;
}

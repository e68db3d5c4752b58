use Rattle.std.proofs.Common.{◌≡◌, map, take}
use Rattle.serde_json.specs.View.{view}
use Rattle.qn_status.specs.StateData.{state_data}
use Rattle.qn_status.proofs.as_json.states_value.Given as goal

abbrev pub invariant-nodes : goal.invariant-nodes
invariant-nodes l = map view l.items.items ≡ map state_data (take l.node-index l.nodes)

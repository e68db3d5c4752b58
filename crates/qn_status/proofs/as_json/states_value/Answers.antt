use Rattle.std.proofs.Common.{ap, ◌∙◌, map, take_all}
use Rattle.serde_json.specs.Data.{array}
use Rattle.serde_json.proofs.Views.{view-Array}
use Rattle.qn_status.specs.StateData.{state_data}
use Rattle.qn_status.proofs.Lines.{items_states}
use Rattle.qn_status.proofs.as_json.states_value.Goals as goal

pub returns : goal.returns
returns c =
    view-Array c.nodes.items
    ∙ ap array
    (items_states c.nodes.items.items c.args.nodes.now
    (c.nodes.invariant ∙ ap (λ nodes. map state_data nodes) (take_all c.nodes.node-index c.args.nodes.now c.nodes-test.false)))

-- The status of nodes as JSON data.
use Rattle.std.specs.Prelude.{List, [], ◌∷◌, codes}
use Rattle.serde_json.specs.Data.{Data, Items, array, boolean, item, member, no_items, no_members, number, object, string, unsigned}
use Rattle.qn_names.specs.PhaseNames.{phase_name}
use Rattle.qn_names.specs.WhyTexts.{why_text}
use Rattle.qn_status.specs.declared.node_state.NodeState.{NodeState}

-- the object of a node
abbrev pub state_data : NodeState → Data
state_data n =
    object
    (member (codes "expected") (number (unsigned n.answer.expected))
    (member (codes "holds") (boolean n.holds)
    (member (codes "id") (number (unsigned n.id.0))
    (member (codes "phase") (string (phase_name n.phase))
    (member (codes "quorate") (boolean n.answer.quorate)
    (member (codes "quorum") (number (unsigned n.answer.quorum))
    (member (codes "released") (boolean n.answer.released)
    (member (codes "votes") (number (unsigned n.answer.votes))
    (member (codes "why") (string (why_text n.why))
    no_members)))))))))

abbrev pub states_items : List NodeState → Items
states_items [] = no_items
states_items (n ∷ nodes) = item (state_data n) (states_items nodes)

-- the array of the objects
abbrev pub states_data : List NodeState → Data
states_data nodes = array (states_items nodes)

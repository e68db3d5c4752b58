-- The status as JSON (RFC 8259): this project's profile.
use Rattle.std.specs.Prelude.{ℕ, Bool, true, false, List, ◌++◌, map, codes, decimal}
use Rattle.std.specs.List.{join_with_byte}
use Rattle.qn_model.specs.declared.configuration.Settings.{Settings}
use Rattle.qn_model.specs.World.{World}
use Rattle.qn_names.specs.PhaseNames.{phase_name}
use Rattle.qn_names.specs.WhyTexts.{why_text}
use Rattle.qn_status.specs.declared.node_state.NodeState.{NodeState}
use Rattle.qn_status.specs.NodeStates.{node_states}

abbrev pub truth : Bool → List ℕ
truth true = codes "true"
truth false = codes "false"

-- the object of a node, with its keys in alphabetical order
unfoldable pub state_object : NodeState → List ℕ
state_object n =
    codes "{\"expected\":" ++ decimal n.answer.expected ++ codes ",\"holds\":" ++ truth n.holds ++ codes ",\"id\":" ++ decimal n.id.0
    ++ codes ",\"phase\":\"" ++ phase_name n.phase ++ codes "\",\"quorate\":" ++ truth n.answer.quorate ++ codes ",\"quorum\":" ++ decimal n.answer.quorum
    ++ codes ",\"released\":" ++ truth n.answer.released ++ codes ",\"votes\":" ++ decimal n.answer.votes ++ codes ",\"why\":\"" ++ why_text n.why ++ codes "\"}"

-- the array of the objects, on one line
abbrev pub states_line : List NodeState → List ℕ
states_line nodes = codes "[" ++ join_with_byte 44 (map state_object nodes) ++ codes "]\n"

-- the status of a world
abbrev pub status_json : Settings → World → List ℕ
status_json s w = states_line (node_states s w)

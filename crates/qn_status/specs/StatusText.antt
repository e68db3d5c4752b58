-- The status as text: this project's profile.
use Rattle.std.specs.Prelude.{ℕ, List, ◌++◌, flat_map, codes, decimal}
use Rattle.qn_model.specs.declared.configuration.Settings.{Settings}
use Rattle.qn_model.specs.declared.votes.Answer.{Answer}
use Rattle.qn_base.specs.Text.{yes_no}
use Rattle.qn_model.specs.World.{World}
use Rattle.qn_names.specs.PhaseNames.{phase_name}
use Rattle.qn_names.specs.AnswerTexts.{answer_text}
use Rattle.qn_names.specs.WhyTexts.{why_text}
use Rattle.qn_status.specs.declared.node_state.NodeState.{NodeState}
use Rattle.qn_status.specs.NodeStates.{node_states}

-- the whole count of a node
unfoldable pub count_text : Answer → List ℕ
count_text a = answer_text a ++ codes " expected=" ++ decimal a.expected ++ codes " released=" ++ yes_no a.released

-- the line of a node
unfoldable pub state_line : NodeState → List ℕ
state_line n =
    codes "node " ++ decimal n.id.0 ++ codes " " ++ phase_name n.phase ++ codes " holds=" ++ yes_no n.holds ++ count_text n.answer ++ codes " why="
    ++ why_text n.why ++ codes "\n"

-- the status of a world: a line for each node
abbrev pub status_text : Settings → World → List ℕ
status_text s w = flat_map state_line (node_states s w)

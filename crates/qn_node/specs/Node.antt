-- What a node in fixed memory stands for: the log of a member.
use Rattle.std.specs.Prelude.{◌≡◌, ◌<◌, ℕ, List, Option, length}
use Rattle.std.specs.Option.{option_map}
use Rattle.qn_base.specs.declared.ids.View.{View}
use Rattle.qn_model.specs.declared.configuration.Settings.{Settings}
use Rattle.qn_model.specs.declared.life.Phase.{Phase}
use Rattle.qn_model.specs.Log.{Line, incarnation}
use Rattle.qn_model.specs.NodeVotes.{install, view, votes}
use Rattle.qn_fence.specs.Fence.{IsAskedInside}
use Rattle.qn_node.specs.declared.node.Node.{Node}
use Rattle.qn_node.specs.Stage.{StageFor, stage_phase}
use Rattle.qn_node.specs.Tally.{TallyFor}

-- how many entries a node can still take
abbrev pub steps_of : Node → ℕ
steps_of node = node.steps_left

-- the phase of a node
abbrev pub phase_of : Node → Phase
phase_of node = stage_phase node.stage

-- the install number and the present view
abbrev pub present : List Line → Option (ℕ × View)
present log = option_map (λ installed. (install log, installed)) (view log)

-- the node stands for the log of the configured member of that rank
pub record NodeFor (node : Node) (s : Settings) (me : ℕ) (log : List Line) : Type 0 where
  pub has_settings : node.own.settings ≡ s
  pub has_rank : node.own.me.0 ≡ me
  pub is_configured : me < length s.nodes
  pub knows : node.incarnation ≡ incarnation log
  pub is_inside : IsAskedInside log
  pub counts : TallyFor node.tally s (votes log)
  pub stands : StageFor node.stage s me log

-- A node of which nothing comes any more, and the log that it stands for: this project's profile.
use Rattle.std.specs.Prelude.{◌≡◌, false, List, None}
use Rattle.qn_model.specs.declared.configuration.Settings.{Settings}
use Rattle.qn_model.specs.Log.{Line, claimed, op_out}
use Rattle.qn_model.specs.Fitting.{is_first}
use Rattle.qn_model.specs.Phases.{is_live, phase}
use Rattle.qn_node.specs.declared.rest.Rest.{Rest}
use Rattle.qn_node.specs.Resource.{ResourceFor}

-- such a node stands for a log: some entry came, the node takes no part, and no disk operation is out
pub record RestFor (rest : Rest) (s : Settings) (log : List Line) : Type 0 where
  pub phases : phase s log ≡ rest.phase
  pub not_live : is_live rest.phase ≡ false
  pub not_first : is_first log ≡ false
  pub claims : claimed log ≡ rest.claims
  pub none_out : op_out log ≡ None
  pub resource : ResourceFor rest.resource log

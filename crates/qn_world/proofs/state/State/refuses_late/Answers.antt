use Rattle.std.proofs.Common.{◌∙◌, ap}
use Rattle.qn_model.specs.Rules.{unless}
use Rattle.qn_world.proofs.state.State.refuses_late.Goals as goal

pub returns : goal.returns
returns c d is = c.unless.ensures ∙ ap (λ b. unless b 6) (c.has_left.ensures d is)

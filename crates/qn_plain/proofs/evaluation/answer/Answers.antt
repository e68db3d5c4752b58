use Rattle.std.proofs.Common.{◌∙◌}
use Rattle.qn_model.specs.NodeOutputs.{log_of}
use Rattle.qn_plain.proofs.Questions.{answer_past}
use Rattle.qn_plain.proofs.evaluation.answer.Goals as goal

pub returns : goal.returns
returns c =
    c.answer_with_tie.ensures
    ∙ answer_past c.args.settings.now c.evaluate.result.past (log_of c.args.settings.now c.args.me.0 c.args.history.now) c.evaluate.ensures.stands c.args.tick

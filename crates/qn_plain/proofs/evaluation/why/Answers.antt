use Rattle.std.proofs.Common.{ap, ◌∙◌}
use Rattle.qn_model.specs.NodeOutputs.{log_of}
use Rattle.qn_plain.specs.Lack.{why_by}
use Rattle.qn_plain.proofs.Questions.{unmet_past}
use Rattle.qn_plain.proofs.evaluation.why.Goals as goal

pub returns : goal.returns
returns c =
    c.why.ensures
    ∙ (ap (why_by c.args.settings.now c.args.tick c.evaluate.result.past) c.lack.ensures.value
    ∙ unmet_past c.args.settings.now c.evaluate.result.past (log_of c.args.settings.now c.args.me.0 c.args.history.now) c.evaluate.ensures.stands c.args.me.0 c.args.tick)

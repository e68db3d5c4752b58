use Rattle.std.proofs.Common.{sym, subst, ◌∙◌}
use Rattle.qn_node.specs.Stage.{StageFor}
use Rattle.qn_node.proofs.RestSteps.{rest_outs}
use Rattle.qn_node.proofs.stage.Stage.next.Goals as goal

pub returns-in-Rest-clause-outs : goal.returns-in-Rest-clause-outs
returns-in-Rest-clause-outs c = λ log h.
    let s = c.args.own.now.settings in
    let me = c.args.own.now.me.0 in
    let from = subst (λ at. StageFor at s me log) c.in-Rest.is h in
    c.requires.empty ∙ sym (rest_outs c.in-Rest.rest s me log c.args.entry.tick c.args.entry.what from)

use Rattle.std.proofs.Common.{◌≡◌, ◌++◌, ◌∙◌, ap, subst}
use Rattle.qn_commands.specs.Endings.{Says}
use Rattle.qn_commands.specs.Seen.{sink}
use Rattle.qn_commands.specs.Statuses.{code_of}
use Rattle.qn_top.specs.Commands.Help.{help_text}
use Rattle.qn_top.proofs.LastTexts.{helps}
use Rattle.qn_top.proofs.commands.help.help.Goals as goal

pub returns : goal.returns
returns g c = λ input env.
    let same : c.add.new.self ≡ help_text = c.add.ensures.text ∙ ap (λ t. t ++ help_text) c.new-text.ensures in
    helps input (sink g.O.Sink.written g.O.Sink.faults c.args.out.now) (sink g.O.Sink.written g.O.Sink.faults c.say.new.out) env (code_of c.say.result)
    c.say.ensures.sink_faults
    (subst (λ t. Says t 0 (sink g.O.Sink.written g.O.Sink.faults c.args.out.now) (sink g.O.Sink.written g.O.Sink.faults c.say.new.out) (code_of c.say.result)) same c.say.ensures.says)

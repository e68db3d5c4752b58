use Rattle.std.proofs.Common.{ap, sym, ◌∙◌}
use Rattle.qn_model.specs.Wanted.{asks_mail}
use Rattle.qn_node.proofs.live.acting.note_read.Goals as goal

pub returns-then-not-asks_mail : goal.returns-then-not-asks_mail
returns-then-not-asks_mail c = λ log line stands plain at is.
    c.law_other_lines.ensures c.args.watch.now log line stands plain (ap asks_mail is ∙ (sym c.asks_mail.ensures ∙ c.if-not-asks_mail.true))

use Rattle.std.proofs.Common.{sym, ◌∙◌}
use Rattle.qn_arbiter.proofs.event_line.read_arbiter_line_into.Goals as goal

pub returns-clause-spelled : goal.returns-clause-spelled
returns-clause-spelled c = λ event.
    let both = c.law_arbiter_lines.ensures c.args.settings.now c.args.line.now event c.requires in
    let is = c.read_event.ensures in
    (λ ok. both.0 (sym is ∙ ok), λ spelling. is ∙ both.1 spelling)

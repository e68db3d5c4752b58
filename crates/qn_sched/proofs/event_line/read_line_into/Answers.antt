use Rattle.std.proofs.Common.{sym, ◌∙◌}
use Rattle.qn_sched.proofs.EventSpelling.{event_spelled}
use Rattle.qn_sched.proofs.RankSpelling.{length-ids, valid_ids}
use Rattle.qn_sched.proofs.event_line.read_line_into.Goals as goal

pub returns-clause-spelled : goal.returns-clause-spelled
returns-clause-spelled c = λ event.
    let settings = c.args.settings.now in
    let valid = c.requires in
    let both = event_spelled settings (valid_ids settings valid) (length-ids settings.nodes) valid.few_nodes c.args.line.now event in
    let is = c.read_event.ensures in
    (λ ok. both.0 (sym is ∙ ok), λ spelling. is ∙ both.1 spelling)

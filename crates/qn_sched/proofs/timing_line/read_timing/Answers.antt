use Rattle.std.proofs.Common.{sym, ◌∙◌}
use Rattle.qn_sched.proofs.TimingSpelling.{timing_spelled}
use Rattle.qn_sched.proofs.timing_line.read_timing.Goals as goal

pub returns-clause-spelled : goal.returns-clause-spelled
returns-clause-spelled c = λ timing.
    let both = timing_spelled c.args.line.now timing in
    let is = c.read_line.ensures in
    (λ ok. both.0 (sym is ∙ ok), λ spelling. is ∙ both.1 spelling)

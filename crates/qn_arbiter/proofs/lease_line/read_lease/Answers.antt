use Rattle.std.proofs.Common.{sym, ◌∙◌}
use Rattle.qn_arbiter.proofs.LeaseSpelling.{lease_spelled}
use Rattle.qn_arbiter.proofs.lease_line.read_lease.Goals as goal

pub returns-clause-spelled : goal.returns-clause-spelled
returns-clause-spelled c = λ times.
    let both = lease_spelled c.args.line.now times in
    let is = c.read_line.ensures in
    (λ ok. both.0 (sym is ∙ ok), λ spelling. is ∙ both.1 spelling)

use Rattle.std.proofs.Common.{sym, ap, ◌∙◌}
use Rattle.qn_boot.proofs.BootSteps.{header_on, header_stands}
use Rattle.qn_boot.proofs.steps.Boot+WantHeader.header.Goals as goal

pub returns-clause-stands : goal.returns-clause-stands
returns-clause-stands c = λ s me log tick stands.
    let count = c.if-nodes-self.false ∙ (ap (λ want. want.nodes) c.self.view_is ∙ stands.has_count) in
    let safe = sym c.timing_safe.ensures ∙ c.if-not-timing_safe.false in
    let on = header_on s c.args.seen c.in-Read.nodes c.in-Read.timing c.in-Read.is count safe in
    header_stands s me tick c.in-Read.nodes c.args.seen c.in-Read.timing c.args.self _ log c.in-Read.is on (ap (λ want. want.clean) c.self.view_is) stands

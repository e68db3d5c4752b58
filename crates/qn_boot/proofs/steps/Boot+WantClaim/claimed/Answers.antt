use Rattle.std.proofs.Common.{ap}
use Rattle.qn_boot.proofs.BootSteps.{claim_stands}
use Rattle.qn_boot.proofs.steps.Boot+WantClaim.claimed.Goals as goal

pub returns-clause-stands : goal.returns-clause-stands
returns-clause-stands c = λ s me log tick stands.
    claim_stands s me tick c.args.ok c.args.self _ log c.if-not-ok.false (ap (λ want. want.times) c.self.view_is) (ap (λ want. want.claims) c.self.view_is) stands

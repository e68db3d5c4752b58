use Rattle.std.proofs.Common.{ap}
use Rattle.qn_boot.proofs.BootSteps.{clear_stands}
use Rattle.qn_boot.proofs.steps.Boot+WantClear.cleared.Goals as goal

pub returns-clause-stands : goal.returns-clause-stands
returns-clause-stands c = λ s me log stands.
    clear_stands s me c.args.ok c.args.self _ log c.if-not-ok.false (ap (λ want. want.times) c.self.view_is) (ap (λ want. want.claims) c.self.view_is) stands

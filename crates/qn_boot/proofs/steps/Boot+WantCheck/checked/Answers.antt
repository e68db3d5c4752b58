use Rattle.std.proofs.Common.{◌≡◌, None, ap, rules}
use Rattle.qn_model.specs.Phases.{check_halt}
use Rattle.qn_boot.proofs.BootSteps.{check_stands}
use Rattle.qn_boot.proofs.steps.Boot+WantCheck.checked.Goals as goal

pub returns-clause-stands : goal.returns-clause-stands
returns-clause-stands c = λ s me log tick stands.
    let on : check_halt c.args.seen ≡ None = search rules in
    check_stands s me tick c.args.seen c.args.self _ log on (ap (λ want. want.times) c.self.view_is) (ap (λ want. want.claims) c.self.view_is) stands

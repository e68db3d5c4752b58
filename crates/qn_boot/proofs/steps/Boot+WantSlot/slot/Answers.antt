use Rattle.std.proofs.Common.{◌≡◌, None, Some, ap, sym, ◌∙◌, rules}
use Rattle.qn_model.specs.declared.outputs.DiskOp.TheVariants as disk
use Rattle.qn_model.specs.Phases.{slot_halt}
use Rattle.qn_model.specs.Wanted.{claim_after}
use Rattle.qn_boot.proofs.BootSteps.{slot_stands}
use Rattle.qn_boot.proofs.steps.Boot+WantSlot.slot.Goals as goal

pub returns-in-Some-clause-stands : goal.returns-in-Some-clause-stands
returns-in-Some-clause-stands c = λ s me log tick stands.
    let on : slot_halt c.args.seen ≡ None = search rules in
    let claims : claim_after c.args.seen ≡ Some (disk.WriteClaim c.in-Some.claims) = search rules in
    let next = claims ∙ ap (λ number. Some (disk.WriteClaim number)) (sym c.after.ensures.claims) in
    slot_stands s me tick c.args.seen c.args.self c.after.result log on next c.after.ensures.times c.after.ensures.check stands

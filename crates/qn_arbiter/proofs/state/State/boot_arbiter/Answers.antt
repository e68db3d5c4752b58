use Rattle.std.proofs.Common.{None, Some, ap, subst, sym}
use Rattle.qn_safety.specs.declared.arbiter_event.ArbiterEvent.TheVariants as beside
use Rattle.qn_safety.specs.declared.arbiter_reports.Said.TheVariants.{Nothing}
use Rattle.qn_safety.specs.ArbiterSteps.{booted_arbiter}
use Rattle.qn_arbiter.specs.Standing.{IsStanding, RunsFor}
use Rattle.qn_arbiter.specs.Stepping.{Stepped}
use Rattle.qn_arbiter.specs.Whole.{Kept}
use Rattle.qn_arbiter.proofs.Quiet.{QuietReport, boot_made, boot_standing}
use Rattle.qn_arbiter.proofs.state.State.boot_arbiter.Goals as goal

pub returns : goal.returns
returns c =
    let k = c.args.self.now in
    let r = c.report_quiet.new.into in
    let e = c.report_quiet.ensures in
    let same = ap (λ (k : Kept). record k { arbiter = Some c.boot.result }) c.self.view_is in
    let runs = subst (λ (k : Kept). RunsFor c.boot.result (booted_arbiter k.lease.lease c.args.base)) c.self.view_is c.boot.ensures in
    let stands = subst IsStanding (sym same) (boot_standing k c.args.base c.boot.result c.requires runs) in
    let says = subst (λ after. QuietReport after None Nothing r) same
    (record { sent = e.said; outs = e.outs stands; exact = e.exact; one_holder = e.one_holder stands }) in
    subst (λ after. Stepped k after (beside.ArbiterBoot c.args.base) r) (sym same) (boot_made k c.args.base c.boot.result r c.requires runs says)

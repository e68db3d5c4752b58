use Rattle.std.proofs.Common.{None, ap, subst, sym}
use Rattle.qn_safety.specs.declared.arbiter_event.ArbiterEvent.TheVariants as beside
use Rattle.qn_safety.specs.declared.arbiter_reports.Said.TheVariants.{Nothing}
use Rattle.qn_arbiter.specs.Standing.{IsStanding}
use Rattle.qn_arbiter.specs.Stepping.{Stepped}
use Rattle.qn_arbiter.specs.Whole.{Kept}
use Rattle.qn_arbiter.proofs.Quiet.{QuietReport, crash_made, crash_standing}
use Rattle.qn_arbiter.proofs.state.State.crash_arbiter.Goals as goal

pub returns : goal.returns
returns c =
    let k = c.args.self.now in
    let r = c.report_quiet.new.into in
    let e = c.report_quiet.ensures in
    let same = ap (λ (k : Kept). record k { arbiter = None }) c.self.view_is in
    let stands = subst IsStanding (sym same) (crash_standing k c.requires) in
    let says = subst (λ after. QuietReport after None Nothing r) same
    (record { sent = e.said; outs = e.outs stands; exact = e.exact; one_holder = e.one_holder stands }) in
    subst (λ after. Stepped k after beside.ArbiterCrash r) (sym same) (crash_made k r c.requires says)

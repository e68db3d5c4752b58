use Rattle.std.proofs.Common.{◌≡◌, None, refl, sym, ap, subst, ◌∙◌}
use Rattle.qn_model.specs.declared.entries.What.TheVariants as what
use Rattle.qn_model.specs.declared.life.Phase.TheVariants.{Booting}
use Rattle.qn_model.specs.declared.outputs.DiskOp.TheVariants as disk
use Rattle.qn_model.specs.Phases.{boot_phase}
use Rattle.qn_model.specs.NodeOutputs.{newest_outs, with_read}
use Rattle.qn_boot.specs.Boot.{WantCheckFor}
use Rattle.qn_node.specs.Stage.{StageFor}
use Rattle.qn_node.proofs.BootEntries.{as_read, asks_checked_claim, halt_outs, halt_stands, nothing_for_check, reads_answer, step_outs, tick_outs}
use Rattle.qn_node.proofs.booting.checked.Goals as goal

pub returns-in-Ok-clause-outs : goal.returns-in-Ok-clause-outs
returns-in-Ok-clause-outs c = λ log h.
    let s = c.args.own.now.settings in
    let me = c.args.own.now.me.0 in
    let tick = c.args.tick in
    as_read (λ w. c.go_on.new.outs ≡ newest_outs (with_read s me log tick w)) s me log c.args.what (what.MailChecked c.in-MailChecked.seen) c.in-MailChecked.is
    (reads_answer s me log None disk.CheckMail (what.MailChecked c.in-MailChecked.seen) h.waits refl refl)
    (c.go_on.ensures ∙ sym (step_outs s me tick log (what.MailChecked c.in-MailChecked.seen) (disk.WriteClaim c.claims.result) h.waits.is_booting refl refl (sym (c.in-Ok.ensures.exact s))
    (asks_checked_claim me tick log c.in-MailChecked.seen c.claims.result (c.claims.ensures.value ∙ (c.in-Ok.ensures.next.1 ∙ h.has_number)))))

pub returns-in-Err-clause-outs : goal.returns-in-Err-clause-outs
returns-in-Err-clause-outs c = λ log h.
    let s = c.args.own.now.settings in
    let me = c.args.own.now.me.0 in
    let tick = c.args.tick in
    as_read (λ w. c.halted.new.outs ≡ newest_outs (with_read s me log tick w)) s me log c.args.what (what.MailChecked c.in-MailChecked.seen) c.in-MailChecked.is
    (reads_answer s me log None disk.CheckMail (what.MailChecked c.in-MailChecked.seen) h.waits refl refl)
    (c.halted.ensures.outs ∙ sym (halt_outs s me tick log (what.MailChecked c.in-MailChecked.seen) c.in-Err.halt.cause h.waits.is_booting refl (sym (c.in-Err.ensures.exact s))))

pub returns-in-Err-clause-stands : goal.returns-in-Err-clause-stands
returns-in-Err-clause-stands c = λ log h.
    let s = c.args.own.now.settings in
    let me = c.args.own.now.me.0 in
    let tick = c.args.tick in
    let halts = sym (c.in-Err.ensures.exact s) in
    as_read (λ w. StageFor c.halted.result s me (with_read s me log tick w)) s me log c.args.what (what.MailChecked c.in-MailChecked.seen) c.in-MailChecked.is
    (reads_answer s me log None disk.CheckMail (what.MailChecked c.in-MailChecked.seen) h.waits refl refl)
    (subst (λ stage. StageFor stage s me (with_read s me log tick (what.MailChecked c.in-MailChecked.seen))) (sym c.halted.ensures.stage)
    (halt_stands s me tick log None disk.CheckMail (what.MailChecked c.in-MailChecked.seen) c.in-Err.halt.cause h.waits refl refl refl halts refl (λ timely. ap (λ o. boot_phase o Booting) halts)))

pub returns-in_default-clause-stands : goal.returns-in_default-clause-stands
returns-in_default-clause-stands c = λ log h.
    let s = c.args.own.now.settings in
    let me = c.args.own.now.me.0 in
    let tick = c.args.tick in
    subst (λ w. WantCheckFor s c.args.boot (with_read s me log tick w)) (sym (nothing_for_check s me log None c.args.what h.waits c.in_default.not-MailChecked))
    (c.law_boot_waits.ensures.check s me tick c.args.boot log h)

pub returns-in_default-clause-outs : goal.returns-in_default-clause-outs
returns-in_default-clause-outs c = λ log h.
    let s = c.args.own.now.settings in
    let me = c.args.own.now.me.0 in
    let tick = c.args.tick in
    subst (λ w. c.args.outs.now ≡ newest_outs (with_read s me log tick w)) (sym (nothing_for_check s me log None c.args.what h.waits c.in_default.not-MailChecked))
    (c.requires ∙ sym (tick_outs s me tick log h.waits.is_booting))

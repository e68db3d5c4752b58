use Rattle.std.proofs.Common.{◌≡◌, Some, refl, sym, subst, ◌∙◌}
use Rattle.qn_model.specs.declared.entries.What.TheVariants as what
use Rattle.qn_model.specs.declared.life.Phase.TheVariants.{Gone}
use Rattle.qn_model.specs.declared.outputs.BootCause.TheVariants as cause
use Rattle.qn_model.specs.declared.outputs.DiskOp.TheVariants as disk
use Rattle.qn_model.specs.NodeOutputs.{newest_outs, with_read}
use Rattle.qn_boot.specs.Boot.{WantClaimFor}
use Rattle.qn_node.specs.declared.resource.Resource.TheVariants as resource
use Rattle.qn_node.specs.Rest.{RestFor}
use Rattle.qn_node.specs.Stage.{StageFor}
use Rattle.qn_node.proofs.BootEntries.{as_read, halt_outs, halt_stands, not_ok, nothing_for_claim, reads_answer, step_outs, tick_outs}
use Rattle.qn_node.proofs.booting.claimed.Goals as goal

pub returns-in-Ok-clause-outs : goal.returns-in-Ok-clause-outs
returns-in-Ok-clause-outs c = λ log h.
    let s = c.args.own.now.settings in
    let me = c.args.own.now.me.0 in
    let tick = c.args.tick in
    as_read (λ w. c.go_on.new.outs ≡ newest_outs (with_read s me log tick w)) s me log c.args.what (what.Claimed c.in-Claimed.ok) c.in-Claimed.is
    (reads_answer s me log (Some c.args.boot.claims) (disk.WriteClaim c.args.boot.claims) (what.Claimed c.in-Claimed.ok) h.waits refl refl)
    (c.go_on.ensures ∙ sym (step_outs s me tick log (what.Claimed c.in-Claimed.ok) disk.WriteClear h.waits.is_booting refl refl (sym (c.in-Ok.ensures.exact s)) refl))

pub returns-in-Err-clause-outs : goal.returns-in-Err-clause-outs
returns-in-Err-clause-outs c = λ log h.
    let s = c.args.own.now.settings in
    let me = c.args.own.now.me.0 in
    let tick = c.args.tick in
    as_read (λ w. c.halted.new.outs ≡ newest_outs (with_read s me log tick w)) s me log c.args.what (what.Claimed c.in-Claimed.ok) c.in-Claimed.is
    (reads_answer s me log (Some c.args.boot.claims) (disk.WriteClaim c.args.boot.claims) (what.Claimed c.in-Claimed.ok) h.waits refl refl)
    (c.halted.ensures.outs ∙ sym (halt_outs s me tick log (what.Claimed c.in-Claimed.ok) c.in-Err.halt.cause h.waits.is_booting refl (sym (c.in-Err.ensures.exact s))))

pub returns-in-Err-clause-stands : goal.returns-in-Err-clause-stands
returns-in-Err-clause-stands c = λ log h.
    let s = c.args.own.now.settings in
    let me = c.args.own.now.me.0 in
    let tick = c.args.tick in
    let halts = sym (c.in-Err.ensures.exact s) in
    as_read (λ w. StageFor c.halted.result s me (with_read s me log tick w)) s me log c.args.what (what.Claimed c.in-Claimed.ok) c.in-Claimed.is
    (reads_answer s me log (Some c.args.boot.claims) (disk.WriteClaim c.args.boot.claims) (what.Claimed c.in-Claimed.ok) h.waits refl refl)
    (subst (λ stage. StageFor stage s me (with_read s me log tick (what.Claimed c.in-Claimed.ok))) (sym c.halted.ensures.stage)
    (subst (λ n. RestFor (record { phase = Gone; claims = Some n; resource = resource.Free }) s (with_read s me log tick (what.Claimed c.in-Claimed.ok))) (sym c.claims-claims.ensures.value)
    (halt_stands s me tick log (Some c.args.boot.claims) (disk.WriteClaim c.args.boot.claims) (what.Claimed c.in-Claimed.ok) c.in-Err.halt.cause h.waits refl refl refl halts refl (λ timely. rw (not_ok c.in-Claimed.ok cause.ClaimFailed c.in-Err.halt.cause halts)))))

pub returns-in_default-clause-stands : goal.returns-in_default-clause-stands
returns-in_default-clause-stands c = λ log h.
    let s = c.args.own.now.settings in
    let me = c.args.own.now.me.0 in
    let tick = c.args.tick in
    subst (λ w. WantClaimFor s c.args.boot (with_read s me log tick w)) (sym (nothing_for_claim s me log (Some c.args.boot.claims) c.args.boot.claims c.args.what h.waits c.in_default.not-Claimed))
    (c.law_boot_waits.ensures.claim s me tick c.args.boot log h)

pub returns-in_default-clause-outs : goal.returns-in_default-clause-outs
returns-in_default-clause-outs c = λ log h.
    let s = c.args.own.now.settings in
    let me = c.args.own.now.me.0 in
    let tick = c.args.tick in
    subst (λ w. c.args.outs.now ≡ newest_outs (with_read s me log tick w)) (sym (nothing_for_claim s me log (Some c.args.boot.claims) c.args.boot.claims c.args.what h.waits c.in_default.not-Claimed))
    (c.requires ∙ sym (tick_outs s me tick log h.waits.is_booting))

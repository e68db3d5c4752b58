use Rattle.std.proofs.Common.{None, Some, refl, sym, ap, subst, ◌∙◌}
use Rattle.qn_model.specs.declared.entries.What.TheVariants as what
use Rattle.qn_model.specs.declared.life.Phase.TheVariants.{Booting}
use Rattle.qn_model.specs.declared.outputs.DiskOp.TheVariants as disk
use Rattle.qn_model.specs.Phases.{boot_phase}
use Rattle.qn_model.specs.NodeOutputs.{with_read}
use Rattle.qn_model.specs.Wanted.{rank_of}
use Rattle.qn_node.specs.Stage.{StageFor}
use Rattle.qn_node.proofs.BootEntries.{asks_check, asks_claim, halt_outs, halt_stands, step_outs}
use Rattle.qn_node.proofs.booting.own_slot.Goals as goal

pub returns-in-Ok-Check-clause-outs : goal.returns-in-Ok-Check-clause-outs
returns-in-Ok-Check-clause-outs c = λ s me tick log h.
    let check = rw c.in-Ok-Check.field-0-is at c.in-Ok-Check.ensures.check in
    let seen = c.args.seen in
    c.go_on.ensures ∙ sym (step_outs s me tick log (what.SlotRead (rank_of me) seen) disk.CheckMail h.waits.is_booting refl refl (sym (c.in-Ok-Check.ensures.exact s (rank_of me)))
    (asks_check me tick log (rank_of me) seen (sym (check ∙ h.has_mode))))

pub returns-in-Ok-Claim-clause-outs : goal.returns-in-Ok-Claim-clause-outs
returns-in-Ok-Claim-clause-outs c = λ s me tick log h.
    let check = rw c.in-Ok-Claim.field-0-is at c.in-Ok-Claim.ensures.check in
    let next = rw c.in-Ok-Claim.field-0-is at c.in-Ok-Claim.ensures.next in
    let op = disk.WriteClaim c.claims.result in
    let seen = c.args.seen in
    c.go_on-in-Ok-Claim.ensures ∙ sym (step_outs s me tick log (what.SlotRead (rank_of me) seen) op h.waits.is_booting refl refl (sym (c.in-Ok-Claim.ensures.exact s (rank_of me)))
    (asks_claim me tick log (rank_of me) seen op (sym (check ∙ h.has_mode)) (next.1 ∙ ap (λ n. Some (disk.WriteClaim n)) (sym c.claims.ensures.value))))

pub returns-in-Err-clause-outs : goal.returns-in-Err-clause-outs
returns-in-Err-clause-outs c = λ s me tick log h.
    c.halted.ensures.outs ∙ sym (halt_outs s me tick log (what.SlotRead (rank_of me) c.args.seen) c.in-Err.halt.cause h.waits.is_booting refl (sym (c.in-Err.ensures.exact s (rank_of me))))

pub returns-in-Err-clause-stands : goal.returns-in-Err-clause-stands
returns-in-Err-clause-stands c = λ s me tick log h.
    let halts = sym (c.in-Err.ensures.exact s (rank_of me)) in
    subst (λ stage. StageFor stage s me (with_read s me log tick (what.SlotRead (rank_of me) c.args.seen))) (sym c.halted.ensures.stage)
    (halt_stands s me tick log None (disk.ReadSlot (rank_of me)) (what.SlotRead (rank_of me) c.args.seen) c.in-Err.halt.cause h.waits refl refl refl halts refl (λ timely. ap (λ o. boot_phase o Booting) halts))

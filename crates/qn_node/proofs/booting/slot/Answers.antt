use Rattle.std.proofs.Common.{◌≡◌, None, refl, sym, ap, subst, ◌∙◌, ℕ, false, arith}
use Rattle.std.specs.Prelude.{◌==◌}
use Rattle.std.proofs.lemmas.Bool.Decides.{nat_tests}
use Rattle.qn_base.specs.lemmas.Numbers.{equal_to_itself}
use Rattle.qn_model.specs.declared.entries.What.TheVariants as what
use Rattle.qn_model.specs.declared.outputs.DiskOp.TheVariants as disk
use Rattle.qn_model.specs.NodeOutputs.{newest_outs, with_read}
use Rattle.qn_model.specs.Wanted.{rank_of}
use Rattle.qn_boot.specs.Boot.{WantSlotFor}
use Rattle.qn_node.specs.Stage.{StageFor}
use Rattle.qn_node.proofs.BootEntries.{as_read, nothing_for_other_slot, nothing_for_slot, reads_answer, tick_outs}
use Rattle.qn_node.proofs.booting.slot.Goals as goal

pub returns-in_default-clause-stands : goal.returns-in_default-clause-stands
returns-in_default-clause-stands c = λ log h.
    let s = c.args.own.now.settings in
    let me = c.args.own.now.me.0 in
    let tick = c.args.tick in
    subst (λ w. WantSlotFor s me c.args.boot (with_read s me log tick w)) (sym (nothing_for_slot s me log None c.args.what h.waits c.in_default.not-SlotRead))
    (c.law_boot_waits.ensures.slot s me tick c.args.boot log h)

pub returns-in_default-clause-outs : goal.returns-in_default-clause-outs
returns-in_default-clause-outs c = λ log h.
    let s = c.args.own.now.settings in
    let me = c.args.own.now.me.0 in
    let tick = c.args.tick in
    subst (λ w. c.args.outs.now ≡ newest_outs (with_read s me log tick w)) (sym (nothing_for_slot s me log None c.args.what h.waits c.in_default.not-SlotRead))
    (c.requires ∙ sym (tick_outs s me tick log h.waits.is_booting))

other : (rank me : ℕ) → (rank ≡ me → ⊥) → (me == rank) ≡ false
other rank me differ = grind (arith, nat_tests)

pub returns-then-rank-own-clause-stands : goal.returns-then-rank-own-clause-stands
returns-then-rank-own-clause-stands c = λ log h.
    let s = c.args.own.now.settings in
    let me = c.args.own.now.me.0 in
    let tick = c.args.tick in
    let nothing = nothing_for_other_slot s me log None c.args.what c.in-SlotRead.rank c.in-SlotRead.seen h.waits c.in-SlotRead.is (other c.in-SlotRead.rank.0 me c.if-rank-own.true) in
    subst (λ w. WantSlotFor s me c.args.boot (with_read s me log tick w)) (sym nothing) (c.law_boot_waits.ensures.slot s me tick c.args.boot log h)

pub returns-then-rank-own-clause-outs : goal.returns-then-rank-own-clause-outs
returns-then-rank-own-clause-outs c = λ log h.
    let s = c.args.own.now.settings in
    let me = c.args.own.now.me.0 in
    let tick = c.args.tick in
    let nothing = nothing_for_other_slot s me log None c.args.what c.in-SlotRead.rank c.in-SlotRead.seen h.waits c.in-SlotRead.is (other c.in-SlotRead.rank.0 me c.if-rank-own.true) in
    subst (λ w. c.args.outs.now ≡ newest_outs (with_read s me log tick w)) (sym nothing) (c.requires ∙ sym (tick_outs s me tick log h.waits.is_booting))

pub returns-clause-stands : goal.returns-clause-stands
returns-clause-stands c = λ log h.
    let s = c.args.own.now.settings in
    let me = c.args.own.now.me.0 in
    let tick = c.args.tick in
    let own = c.in-SlotRead.is ∙ ap (λ n. what.SlotRead (rank_of n) c.in-SlotRead.seen) c.if-rank-own.false in
    let E = what.SlotRead (rank_of me) c.in-SlotRead.seen in
    as_read (λ w. StageFor c.own_slot.result s me (with_read s me log tick w)) s me log c.args.what E own
    (reads_answer s me log None (disk.ReadSlot (rank_of me)) E h.waits refl (equal_to_itself me)) (c.own_slot.ensures.stands s me tick log h)

pub returns-clause-outs : goal.returns-clause-outs
returns-clause-outs c = λ log h.
    let s = c.args.own.now.settings in
    let me = c.args.own.now.me.0 in
    let tick = c.args.tick in
    let own = c.in-SlotRead.is ∙ ap (λ n. what.SlotRead (rank_of n) c.in-SlotRead.seen) c.if-rank-own.false in
    let E = what.SlotRead (rank_of me) c.in-SlotRead.seen in
    as_read (λ w. c.own_slot.new.outs ≡ newest_outs (with_read s me log tick w)) s me log c.args.what E own
    (reads_answer s me log None (disk.ReadSlot (rank_of me)) E h.waits refl (equal_to_itself me)) (c.own_slot.ensures.outs s me tick log h)

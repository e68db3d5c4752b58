-- The operation that reads a sector, of the mailbox of a rank and of its slot.
use Rattle.std.proofs.Common.{◌≡◌, ◌<◌, ◌==◌, ◌+◌, ◌-◌, ◌*◌, ◌/◌, ℕ, false, true, refl, arith}
use Rattle.std.specs.Prelude.{nat_lt}
use Rattle.std.proofs.lemmas.Bool.Decides.{nat_tests}
use Rattle.qn_base.specs.declared.ids.Rank.{Rank}
use Rattle.qn_model.specs.declared.outputs.DiskOp.TheVariants as disk
use Rattle.qn_model.specs.Sectors.{mail_place, slot_place}
use Rattle.qn_live.specs.TripleDisk.{reading}

pub mail_is_read : (me : ℕ) → reading (mail_place me) ≡ disk.ReadMail
mail_is_read me =
    let first : (512 + me == 0) ≡ false = grind (arith, nat_tests) in
    let slots : nat_lt (512 + me) 512 ≡ false = grind (arith, nat_tests) in
    rw (first, slots) refl

pub slot_is_read : (rank : Rank) → rank.0 < 32 → reading (slot_place rank.0) ≡ disk.ReadSlot rank
slot_is_read rank within =
    let first : (1 + 2 * rank.0 == 0) ≡ false = grind (arith, nat_tests) in
    let slots : nat_lt (1 + 2 * rank.0) 512 ≡ true = grind (arith, nat_tests, within) in
    let half : (1 + 2 * rank.0 - 1) / 2 ≡ rank.0 = omega arith in
    rw (first, slots, half) refl

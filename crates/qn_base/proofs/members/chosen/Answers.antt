use Rattle.std.proofs.Common.{◌≡◌, refl, arith, eq-eqb}
use Rattle.std.specs.Int.{w32, bit_at}
use Rattle.std.proofs.lemmas.Nat.Bits.{bit_at-trailing_zeros}
use Rattle.qn_base.proofs.members.chosen.Goals as goal

pub returns-clause-member : goal.returns-clause-member
returns-clause-member c = eq-eqb _ _ (bit_at-trailing_zeros w32 c.args.view.members.0 c.requires (omega arith)).1

pub returns-clause-least : goal.returns-clause-least
returns-clause-least c = λ rank below.
    let none : bit_at c.args.view.members.0 rank ≡ 0 = (bit_at-trailing_zeros w32 c.args.view.members.0 c.requires (omega arith)).2 rank below in
    rw none refl

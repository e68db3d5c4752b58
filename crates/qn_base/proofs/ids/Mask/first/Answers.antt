use Rattle.std.proofs.Common.{arith, eq-eqb}
use Rattle.std.specs.Int.{w32}
use Rattle.std.proofs.lemmas.Nat.Bits.{bit_at-trailing_zeros}
use Rattle.qn_base.proofs.MaskBits.{no_bit, none_below}
use Rattle.qn_base.proofs.ids.Mask.first.Goals as goal
use Rattle.qn_base.proofs.ids.Mask.first.Goals.{else-self-gt0-via-then-self-gt0+else-least-count, else-self-gt0-via-else-self-gt0}

pub returns-then-least-count-clause-member : goal.returns-then-least-count-clause-member
returns-then-least-count-clause-member c =
    eq-eqb _ _ (bit_at-trailing_zeros w32 c.args.self.0 c.if-self-gt0.true (omega arith)).1

pub returns-then-least-count-clause-least : goal.returns-then-least-count-clause-least
returns-then-least-count-clause-least c = none_below c.args.self.0 c.if-self-gt0.true (omega arith)

pub returns-else-self-gt0-clause-none : goal.returns-else-self-gt0-clause-none
returns-else-self-gt0-clause-none c =
    elim c.else-self-gt0.branch [
      | else-self-gt0-via-then-self-gt0+else-least-count w ↦ λ j below. none_below c.args.self.0 w.if-self-gt0.true (omega arith) j (omega arith)
      | else-self-gt0-via-else-self-gt0 w ↦ λ j below. no_bit c.args.self.0 j (omega arith)
    ]

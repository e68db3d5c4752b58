use Rattle.std.proofs.Common.{◌+◌, get_or, arith}
use Rattle.std.specs.Int.{IsInRange}
use Rattle.qn_base.proofs.Digits.{digit_at, value_more, value-take-lt}
use Rattle.qn_base.proofs.decimal.value_of_digits.Goals as goal

pub overflow_mul-value : goal.overflow_mul-value
overflow_mul-value c =
    let more = value_more c.args.digits.now c.loop-digit.digit-index c.requires.digits (omega arith) in
    omega (arith, more, value-take-lt c.args.digits.now (c.loop-digit.digit-index + 1) c.requires.digits c.requires.short)

pub overflow_sub-digit : goal.overflow_sub-digit
overflow_sub-digit c =
    let here : IsInRange 48 57 (get_or c.args.digits.now c.loop-digit.digit-index 0) = digit_at c.args.digits.now c.loop-digit.digit-index c.requires.digits (omega arith) in
    omega arith

pub overflow_add-value : goal.overflow_add-value
overflow_add-value c =
    let more = value_more c.args.digits.now c.loop-digit.digit-index c.requires.digits (omega arith) in
    omega (arith, more, value-take-lt c.args.digits.now (c.loop-digit.digit-index + 1) c.requires.digits c.requires.short)

pub loop-digit-preserved : goal.loop-digit-preserved
loop-digit-preserved c =
    let more = value_more c.args.digits.now c.loop-digit.digit-index c.requires.digits (omega arith) in
    omega (arith, more)

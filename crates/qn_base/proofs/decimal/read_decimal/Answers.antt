use Rattle.std.proofs.Common.{◌≡◌, ◌+◌, ◌-◌, ◌<◌, true, length, take, get_or, sym, ap, ◌∙◌, arith}
use Rattle.std.specs.Int.{IsInRange}
use Rattle.std.specs.Str.{all_ascii_digits}
use Rattle.std.specs.Str.Parse.{digits_value}
use Rattle.std.proofs.lemmas.Bool.Decides.{nat_tests}
use Rattle.qn_base.proofs.Digits.{all_ascii_digits-take, digit_at, number_of-value, value-last}
use Rattle.qn_base.proofs.decimal.read_decimal.Goals as goal

pub overflow_sub-text : goal.overflow_sub-text
overflow_sub-text c =
    let text = c.args.text.now in
    let digits : all_ascii_digits text ≡ true = sym c.are_digits.ensures ∙ c.if-not-are_digits.false in
    let empty = c.is_empty.ensures in
    let filled = c.if-is_empty.false in
    let some : 0 < length text = grind (arith, nat_tests, empty, filled) in
    let here : IsInRange 48 57 (get_or text (length text - 1) 0) = digit_at text (length text - 1) digits (omega arith) in
    omega (arith, here)

pub value_of_digits-front-requires-clause-digits : goal.value_of_digits-front-requires-clause-digits
value_of_digits-front-requires-clause-digits c =
    let text = c.args.text.now in
    let digits : all_ascii_digits text ≡ true = sym c.are_digits.ensures ∙ c.if-not-are_digits.false in
    ap all_ascii_digits c.split_at.ensures.front ∙ all_ascii_digits-take (length text - 1) text digits

pub returns-in_err-checked_mul : goal.returns-in_err-checked_mul
returns-in_err-checked_mul c =
    let text = c.args.text.now in
    let digits : all_ascii_digits text ≡ true = sym c.are_digits.ensures ∙ c.if-not-are_digits.false in
    let empty = c.is_empty.ensures in
    let filled = c.if-is_empty.false in
    let some : 0 < length text = grind (arith, nat_tests, empty, filled) in
    let front : c.value_of_digits-front.result ≡ digits_value 10 (take (length text - 1) text) =
    c.value_of_digits-front.ensures ∙ ap (digits_value 10) c.split_at.ensures.front in
    let total = value-last text (length text - 1) digits (omega arith) in
    number_of-value text c.from_residual.result some c.if-text-gt-MAX_DIGITS.false digits
    (rw c.from_residual.ensures (λ fits. c.in_err-checked_mul.ensures (omega (arith, total, front, fits))))

pub returns : goal.returns
returns c =
    let text = c.args.text.now in
    let digits : all_ascii_digits text ≡ true = sym c.are_digits.ensures ∙ c.if-not-are_digits.false in
    let empty = c.is_empty.ensures in
    let filled = c.if-is_empty.false in
    let some : 0 < length text = grind (arith, nat_tests, empty, filled) in
    let front : c.value_of_digits-front.result ≡ digits_value 10 (take (length text - 1) text) =
    c.value_of_digits-front.ensures ∙ ap (digits_value 10) c.split_at.ensures.front in
    let last = value-last text (length text - 1) digits (omega arith) in
    let digit = c.from-digit.ensures in
    let times = c.in_ok-checked_mul.ensures in
    let total : digits_value 10 text ≡ c.in_ok-checked_mul.field-0 + c.from-digit.result = omega (arith, last, front, digit, times) in
    number_of-value text c.checked_add.result some c.if-text-gt-MAX_DIGITS.false digits (rw total c.checked_add.ensures)

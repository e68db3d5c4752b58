-- Numbers as they are written: they are read back, and none is longer than 20 digits.
use Rattle.std.proofs.Common.{◌≡◌, ℕ, ◌^◌, ◌<◌, ◌≤◌, ◌&&◌, List, length, true, Some, refl, arith, nat_lt, nat_le, lit<}
use Rattle.std.specs.Prelude.{decimal}
use Rattle.std.specs.Str.{all_ascii_digits}
use Rattle.std.specs.Str.Parse.{digits_value}
use Rattle.std.proofs.lemmas.Bool.Decides.{nat_tests}
use Rattle.std.proofs.lemmas.Fmt.{digits_decimal, digits_value-decimal, decimal_nonempty, length-decimal-le}
use Rattle.std.proofs.lemmas.Str.Parse.{IsNumeralModel, numerals_by_value, tells_all_ascii_digits}
use Rattle.qn_base.specs.Decimal.{number_of}

-- the digits' own words are std's
pub numerals : IsNumeralModel (λ ds. all_ascii_digits ds ≡ true) (digits_value 10)
numerals = numerals_by_value (λ ds. all_ascii_digits ds ≡ true) tells_all_ascii_digits

pub length-decimal : (n : ℕ) → n < 2 ^ 64 → length (decimal n) ≤ 20
length-decimal n small = length-decimal-le 20 n (lit< tt) (omega arith) small

-- what is written is read back
pub number_of-decimal : (n : ℕ) → n < 2 ^ 64 → number_of (decimal n) ≡ Some n
number_of-decimal n small =
    let long : 0 < length (decimal n) = decimal_nonempty n small in
    let short : length (decimal n) ≤ 20 = length-decimal n small in
    let digits : all_ascii_digits (decimal n) ≡ true = digits_decimal numerals n small in
    let value : digits_value 10 (decimal n) ≡ n = digits_value-decimal numerals n small in
    let low : nat_le 1 (length (decimal n)) ≡ true = grind (arith, nat_tests) in
    let high : nat_le (length (decimal n)) 20 ≡ true = grind (arith, nat_tests) in
    let fits : nat_lt n (2 ^ 64) ≡ true = grind (arith, nat_tests) in
    rw (low, high, digits, value, fits) refl

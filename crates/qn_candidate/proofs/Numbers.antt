-- Numbers of views, with names and without.
use Rattle.std.proofs.Common.{◌≡◌, ℕ, ◌+◌, ◌-◌, ◌/◌, ◌%◌, ◌^◌, ◌<◌, Bool, true, false, refl, arith}
use Rattle.std.specs.Prelude.{◌||◌, ◌==◌, min, if◌then◌else◌}
use Rattle.std.proofs.lemmas.Nat.{div-mul-add}
use Rattle.qn_base.specs.lemmas.Bools.{second_of_neither}
use Rattle.qn_candidate.specs.Numbers.{is_name, next_plain, without_name, under_name}

-- the high byte of a number under a name is the name
pub under_high : (high number : ℕ) → under_name high number / 2 ^ 56 ≡ high
under_high high number =
    let low : min (number % 2 ^ 56 + 1) (2 ^ 56 - 1) < 2 ^ 56 = omega arith in
    div-mul-add high (2 ^ 56) (min (number % 2 ^ 56 + 1) (2 ^ 56 - 1)) low

-- a number below the high byte is no name
low_is_none : (number : ℕ) → number < 2 ^ 56 → is_name number ≡ false
low_is_none number low =
    let none : number / 2 ^ 56 ≡ 0 = omega arith in rw none refl

plain_by : (number : ℕ) (b : Bool) → is_name number ≡ b → is_name (if b then number % 2 ^ 56 else number) ≡ false
plain_by number true is = low_is_none (number % 2 ^ 56) (omega arith)
plain_by number false is = is

-- a number without its name is no name
pub plain_is_none : (number : ℕ) → is_name (without_name number) ≡ false
plain_is_none number = plain_by number (is_name number) refl

next_by : (number : ℕ) (b : Bool) → (number == 18446744073709551615 || is_name (number + 1)) ≡ b → is_name number ≡ false
    → is_name (if b then number else number + 1) ≡ false
next_by number true is none = none
next_by number false is none = second_of_neither (number == 18446744073709551615) (is_name (number + 1)) is

-- neither is the next one
pub next_is_none : (number : ℕ) → is_name number ≡ false → is_name (next_plain number) ≡ false
next_is_none number none = next_by number (number == 18446744073709551615 || is_name (number + 1)) refl none

-- A number is accepted exactly where it is written as `decimal` writes it.
use Rattle.std.proofs.Common.{◌≡◌, ℕ, ◌^◌, ◌<◌, ◌≤◌, Bool, true, false, ◌&&◌, ◌||◌, ◌==◌, List, [], ◌∷◌, length, get_or, Option, None, Some, Result, Ok, Err, refl, sym, ap, ◌∙◌, arith, nat_lt, nat_le, cond, zero, suc, ◌⊎◌, inl, inr}
use Rattle.std.specs.Prelude.{decimal}
use Rattle.std.specs.Option.{ok_or}
use Rattle.std.specs.Str.{all_ascii_digits}
use Rattle.std.specs.Str.Parse.{digits_value}
use Rattle.std.proofs.lemmas.Bool.{leb-true, ltb-true, ltb-false, eqb-false, and_parts, or_parts, ne_eqb}
use Rattle.std.proofs.lemmas.List.{get_or_default}
use Rattle.std.proofs.lemmas.Bool.Decides.{nat_tests}
use Rattle.std.proofs.lemmas.Fmt.{digits_decimal, first_decimal, decimal_digit, decimal-digits_value}
use Rattle.std.specs.Prelude.{All}
use Rattle.std.specs.Int.{IsInRange}
use Rattle.std.proofs.lemmas.Str.Parse.{numerals_by_value, tells_by_index}
use Rattle.qn_base.specs.Decimal.{is_decimal, number_of}
use Rattle.qn_base.specs.lemmas.Decimals.{numerals, number_of-decimal}
use Rattle.qn_model.specs.declared.line_fault.LineFault.{LineFault}
use Rattle.qn_model.specs.declared.line_fault.LineFault.TheVariants.{BadNumber}
use Rattle.qn_model.specs.Lines.{◌>>=◌, has_leading_zero, number_between}

-- a text whose first byte is no zero has no leading zero
no_leading_zero : (word : List ℕ) → 48 < get_or word 0 0 → has_leading_zero word ≡ false
no_leading_zero [] above = refl
no_leading_zero (first ∷ []) above = refl
no_leading_zero (first ∷ second ∷ rest) above = grind (arith, nat_tests)

has_leading_zero-decimal : (n : ℕ) → n < 2 ^ 64 → has_leading_zero (decimal n) ≡ false
has_leading_zero-decimal zero small = ap has_leading_zero (decimal_digit 0 (omega arith))
has_leading_zero-decimal (suc n) small = no_leading_zero (decimal (suc n)) (first_decimal (suc n) (omega arith) small)

-- a number in range is accepted as it is written
pub number_between-decimal : (low high n : ℕ) → low ≤ n → n ≤ high → n < 2 ^ 64 → number_between low high (decimal n) ≡ Ok n
unfolding number_between
number_between-decimal low high n above below small =
    let first = has_leading_zero-decimal n small in
    let read = number_of-decimal n small in
    let not_below : nat_lt n low ≡ false = grind (arith, nat_tests) in
    let not_above : nat_lt high n ≡ false = grind (arith, nat_tests) in
    rw (read, first, not_below, not_above) refl

abbrev bad_number : Result ℕ LineFault
bad_number = Err BadNumber

-- a choice that gave a value chose it
chose_some : (b : Bool) (value n : ℕ) → cond b (Some value) None ≡ Some n → (b ≡ true) × (value ≡ n)
chose_some true value n is = (refl, cc)
chose_some false value n is = cc

chose_ok : (bad : Bool) (value n : ℕ) → cond bad bad_number (Ok value) ≡ Ok n → (bad ≡ false) × (value ≡ n)
chose_ok true value n is = cc
chose_ok false value n is = (refl, cc)

-- one zero alone may stand first
alone_at_zero : (word : List ℕ) → has_leading_zero word ≡ false → 0 < length word → get_or word 0 0 ≡ 48 → length word ≡ 1
alone_at_zero [] first some is = absurd (omega arith)
alone_at_zero (byte ∷ []) first some is = refl
alone_at_zero (byte ∷ second ∷ rest) first some is = absurd (eqb-false byte 48 first is)

-- the word of a number in range
pub record IsWritten (low high : ℕ) (word : List ℕ) (n : ℕ) : Type 0 where
  pub word_is : word ≡ decimal n
  pub above : low ≤ n
  pub below : n ≤ high

written : (low high : ℕ) (word : List ℕ) (m n : ℕ) → number_of word ≡ Some m
    → cond (has_leading_zero word || nat_lt m low || nat_lt high m) bad_number (Ok m) ≡ Ok n → IsWritten low high word n
written low high word m n read is =
    let chosen = chose_ok (has_leading_zero word || nat_lt m low || nat_lt high m) m n is in
    let tests = or_parts (has_leading_zero word || nat_lt m low) (nat_lt high m) chosen.0 in
    let first = or_parts (has_leading_zero word) (nat_lt m low) tests.0 in
    let value = chose_some (is_decimal word && nat_lt (digits_value 10 word) (2 ^ 64)) (digits_value 10 word) m read in
    let parts = and_parts (is_decimal word) (nat_lt (digits_value 10 word) (2 ^ 64)) value.0 in
    let lengths = and_parts (nat_le 1 (length word) && nat_le (length word) 20) (all_ascii_digits word) parts.0 in
    let some = leb-true 1 (length word) (and_parts (nat_le 1 (length word)) (nat_le (length word) 20) lengths.0).0 in
    let small = ltb-true (digits_value 10 word) (2 ^ 64) parts.1 in
    let spelled = decimal-digits_value numerals word lengths.1 some (alone_at_zero word first.0 some) small in
    let same : digits_value 10 word ≡ n = value.1 ∙ chosen.1 in
    let from_low = ltb-false m low first.1 in
    let from_high = ltb-false high m tests.1 in
    let is_n = chosen.1 in
    record { word_is = sym spelled ∙ ap decimal same; above = omega arith; below = omega arith }

by_number : (low high : ℕ) (word : List ℕ) (n : ℕ) (o : Option ℕ) → number_of word ≡ o
    → (ok_or o BadNumber >>= (λ m. cond (has_leading_zero word || nat_lt m low || nat_lt high m) bad_number (Ok m))) ≡ Ok n → IsWritten low high word n
by_number low high word n None read is = cc
by_number low high word n (Some m) read is = written low high word m n read is

-- what is accepted as a number is written as that number, and in range
pub number_between-ok : (low high : ℕ) (word : List ℕ) (n : ℕ) → number_between low high word ≡ Ok n → IsWritten low high word n
unfolding number_between
number_between-ok low high word n is = by_number low high word n (number_of word) refl is

-- a written number has no byte that is no digit
pub decimal_without : (byte : ℕ) → (byte < 48) ⊎ (57 < byte) → (n : ℕ) → n < 2 ^ 64 → All (λ b. (b == byte) ≡ false) (decimal n)
decimal_without byte other n small = λ k d here.
    let digits : all_ascii_digits (decimal n) ≡ true = digits_decimal numerals n small in
    let in_range : IsInRange 48 57 (get_or (decimal n) k 0) =
    (numerals_by_value (λ ds. (i : ℕ) → i < length ds → IsInRange 48 57 (get_or ds i 0)) tells_by_index).from (decimal n) (numerals.to (decimal n) digits) k here in
    let same : get_or (decimal n) k d ≡ get_or (decimal n) k 0 = get_or_default (decimal n) k d 0 here in
    elim other [
      | inl below ↦ ne_eqb (get_or (decimal n) k d) byte (λ e. omega arith)
      | inr above ↦ ne_eqb (get_or (decimal n) k d) byte (λ e. omega arith)
    ]

-- a written number has no blank
pub decimal_blankless : (n : ℕ) → n < 2 ^ 64 → All (λ b. (b == 32) ≡ false) (decimal n)
decimal_blankless n small = decimal_without 32 (inl (omega arith)) n small

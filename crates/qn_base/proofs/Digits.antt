use Rattle.std.proofs.Common.{◌≡◌, ℕ, zero, suc, ◌+◌, ◌*◌, ◌-◌, ◌^◌, ◌<◌, ◌≤◌, ◌&&◌, inl, inr, List, [], ◌∷◌, length, get_or, take, true, false, Option, Some, None, refl, sym, ap, ◌∙◌, arith, nat_lt, nat_le, lit≤}
use Rattle.std.specs.Str.{all_ascii_digits}
use Rattle.std.specs.Int.{IsInRange}
use Rattle.std.specs.Char.{digit_value, is_ascii_digit}
use Rattle.std.specs.Option.{SomeIff}
use Rattle.std.proofs.lemmas.Bool.{and_parts, cases_lt}
use Rattle.std.proofs.lemmas.List.{take_all}
use Rattle.std.specs.Str.Parse.{digits_value}
use Rattle.std.proofs.lemmas.Bool.Decides.{nat_tests}
use Rattle.std.proofs.lemmas.Str.{digit_value_digit}
use Rattle.std.proofs.lemmas.Int.Digits.{digits_value_more}
use Rattle.std.proofs.lemmas.Str.Parse.{numerals_by_value, tells_by_index, digits_value_short, digits_value-take-le}
use Rattle.qn_base.specs.Decimal.{number_of}
use Rattle.qn_base.specs.lemmas.Decimals.{numerals}

-- the value of at most 19 digits
digits_value-lt_19 : (ds : List ℕ) → all_ascii_digits ds ≡ true → length ds ≤ 19 → digits_value 10 ds < 10 ^ 19
digits_value-lt_19 ds digits short = digits_value_short numerals ds 19 digits short

-- each place of a text of digits has one
pub digit_at : (ds : List ℕ) (i : ℕ) → all_ascii_digits ds ≡ true → i < length ds → IsInRange 48 57 (get_or ds i 0)
digit_at ds i digits lt =
    (numerals_by_value (λ ds. (i : ℕ) → i < length ds → IsInRange 48 57 (get_or ds i 0)) tells_by_index).from ds (numerals.to ds digits) i lt

-- one digit more
pub value_more : (ds : List ℕ) (i : ℕ) → all_ascii_digits ds ≡ true → i < length ds
    → digits_value 10 (take i ds) * 10 + (get_or ds i 0 - 48) ≡ digits_value 10 (take (i + 1) ds)
value_more ds i digits lt =
    let same : digit_value (get_or ds i 0) + 48 ≡ get_or ds i 0 = digit_value_digit (get_or ds i 0) (digit_at ds i digits lt) in
    let more : digits_value 10 (take (i + 1) ds) ≡ digits_value 10 (take i ds) * 10 + digit_value (get_or ds i 0) = digits_value_more 10 ds i lt in
    omega arith

-- the value of the first digits is small
pub value-take-lt : (ds : List ℕ) (i : ℕ) → all_ascii_digits ds ≡ true → length ds ≤ 19 → digits_value 10 (take i ds) < 10 ^ 19
value-take-lt ds i digits short =
    let below : digits_value 10 (take i ds) ≤ digits_value 10 ds = digits_value-take-le 10 ds i (lit≤ tt) in
    let small : digits_value 10 ds < 10 ^ 19 = digits_value-lt_19 ds digits short in
    omega arith

-- the first digits are digits
pub all_ascii_digits-take : (i : ℕ) (ds : List ℕ) → all_ascii_digits ds ≡ true → all_ascii_digits (take i ds) ≡ true
all_ascii_digits-take zero ds digits = refl
all_ascii_digits-take (suc i) [] digits = refl
all_ascii_digits-take (suc i) (d ∷ ds) digits =
    let both = and_parts (is_ascii_digit d) (all_ascii_digits ds) digits in
    ap (λ b. b && all_ascii_digits (take i ds)) both.0 ∙ all_ascii_digits-take i ds both.1

-- the value of the last digit after that of those before it
pub value-last : (ds : List ℕ) (i : ℕ) → all_ascii_digits ds ≡ true → i + 1 ≡ length ds → digits_value 10 ds ≡ digits_value 10 (take i ds) * 10 + (get_or ds i 0 - 48)
value-last ds i digits last =
    ap (digits_value 10) (sym (take_all (i + 1) ds (omega arith))) ∙ sym (value_more ds i digits (omega arith))

-- a number of 1 to 20 digits, where its value fits
pub number_of-value : (ds : List ℕ) (found : Option ℕ) → 0 < length ds → length ds ≤ 20 → all_ascii_digits ds ≡ true
    → SomeIff found (digits_value 10 ds < 2 ^ 64) (digits_value 10 ds) → found ≡ number_of ds
number_of-value ds (Some value) some short digits fits =
    let low : nat_le 1 (length ds) ≡ true = grind (arith, nat_tests) in
    let high : nat_le (length ds) 20 ≡ true = grind (arith, nat_tests) in
    let small : nat_lt (digits_value 10 ds) (2 ^ 64) ≡ true = let lt = fits.0 in grind (arith, nat_tests, lt) in
    rw (low, high, digits, small) (ap Some fits.1)
number_of-value ds None some short digits fits =
    let low : nat_le 1 (length ds) ≡ true = grind (arith, nat_tests) in
    let high : nat_le (length ds) 20 ≡ true = grind (arith, nat_tests) in
    let large : nat_lt (digits_value 10 ds) (2 ^ 64) ≡ false = elim (cases_lt (digits_value 10 ds) (2 ^ 64)) [
      | inl below ↦ absurd (fits below)
      | inr above ↦ grind (arith, nat_tests, above)
    ] in
    rw (low, high, digits, large) refl

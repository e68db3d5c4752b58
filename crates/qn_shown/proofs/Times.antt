-- The time of a status file is a number of JSON, and is read back.
use Rattle.std.proofs.Common.{◌≡◌, ℕ, zero, suc, Bool, true, false, ◌&&◌, ◌+◌, ◌-◌, ◌*◌, ◌/◌, ◌%◌, ◌<◌, ◌≤◌, ◌^◌, List, [], ◌∷◌, ◌++◌, Option, Some, None, length, take, drop, refl, sym, ap, ap₂, ◌∙◌, subst, decimal, arith, nat_le, nat_lt}
use Rattle.std.specs.Prelude.{option_and_then, option_map, if◌then◌else◌, slice_index}
use Rattle.std.specs.Char.{digit_value}
use Rattle.std.specs.Str.Parse.{AllDigits}
use Rattle.std.proofs.lemmas.Bool.{le-leb, lt-ltb, and_from}
use Rattle.std.proofs.lemmas.Fmt.{decimal_is_IsNumeral, decimal_nonempty, decimal_digit, first_decimal}
use Rattle.std.proofs.lemmas.List.{drop_at, length-append}
use Rattle.std.proofs.Math.Seq.{take-append_seam}
use Rattle.fast_float.specs.Text.{Parts, text_of}
use Rattle.json.specs.Print.{IsNumber}
use Rattle.json.proofs.Printed.Floats.{IsNumber-plain}
use Rattle.qn_base.specs.Decimal.{number_of}
use Rattle.qn_base.specs.lemmas.Decimals.{number_of-decimal}
use Rattle.qn_shown.specs.Kinds.{is_digit, thousandths_in, three_digits, time_of, time_text, whole_time}

digit_small : (x : ℕ) → x < 10 → digit_value (48 + x) < 10
digit_small x small = grind arith

three_small : (r : ℕ) → r < 1000 → AllDigits 10 (three_digits r)
three_small r small = (digit_small (r / 100) (omega arith), (digit_small ((r / 10) % 10) (omega arith), (digit_small (r % 10) (omega arith), tt)))

no_zero : (n : ℕ) → n < 2 ^ 64 → slice_index (decimal n) 0 ≡ 48 → length (decimal n) ≡ 1
no_zero zero small is = ap length (decimal_digit 0 (omega arith))
no_zero (suc n) small is = let first = first_decimal (suc n) (omega arith) small in absurd (omega arith)

abbrev parts : ℕ → Parts
parts ms =
    record {
      whole = decimal (ms / 1000);
      point = true;
      fraction = three_digits (ms % 1000);
      exponent_negative = false;
      exponent = [];
      len = length (decimal (ms / 1000) ++ ((46 ∷ three_digits (ms % 1000)) ++ []));
    }

pub time_number : (ms : ℕ) → ms < 2 ^ 64 → IsNumber (time_text ms)
time_number ms small =
    let fits : ms / 1000 < 2 ^ 64 = omega arith in
    IsNumber-plain (time_text ms) (
      false,
      parts ms,
      refl,
      record {
        well_formed = record {
          whole_digits = (decimal_is_IsNumeral (ms / 1000) fits).0.1;
          fraction_digits = three_small (ms % 1000) (omega arith);
          exponent_digits = tt;
          no_point = λ no. absurd cc;
          no_exponent = λ none. refl;
          len_is = refl;
        };
        whole = decimal_nonempty (ms / 1000) fits;
        no_leading_zero = no_zero (ms / 1000) fits;
        fraction = λ point. omega arith;
        marked = λ no. absurd cc;
      },
    )

digit_is : (x : ℕ) → x < 10 → is_digit (48 + x) ≡ true
digit_is x small = and_from _ _ (le-leb 48 (48 + x) (omega arith)) (le-leb (48 + x) 57 (omega arith))

three_back : (r : ℕ) → r < 1000 → thousandths_in (46 ∷ three_digits r) ≡ Some r
three_back r small =
    let a = digit_is (r / 100) (omega arith) in
    let b = digit_is ((r / 10) % 10) (omega arith) in
    let c = digit_is (r % 10) (omega arith) in
    let sum : 100 * (48 + r / 100 - 48) + 10 * (48 + (r / 10) % 10 - 48) + (48 + r % 10 - 48) ≡ r = omega arith in
    ap (λ test. if test then Some (100 * (48 + r / 100 - 48) + 10 * (48 + (r / 10) % 10 - 48) + (48 + r % 10 - 48)) else None)
    (ap₂ (λ x y. x && y) (ap₂ (λ x y. x && y) a b) c) ∙ ap (λ x. Some x) sum

whole_back : (ms : ℕ) → ms < 2 ^ 64 → whole_time (ms / 1000) (ms % 1000) ≡ Some ms
whole_back ms small =
    let sum : 1000 * (ms / 1000) + ms % 1000 ≡ ms = omega arith in
    ap (λ n. if nat_lt n (2 ^ 64) then Some n else None) sum ∙ ap (λ test. if test then Some ms else None) (lt-ltb ms (2 ^ 64) small)

pub time_back : (ms : ℕ) → ms < 2 ^ 64 → time_of (time_text ms) ≡ Some ms
time_back ms small =
    let whole = decimal (ms / 1000) in
    let tail = 46 ∷ three_digits (ms % 1000) in
    let at : length (whole ++ tail) - 4 ≡ length whole = omega (arith, length-append whole tail) in
    let front : take (length (whole ++ tail) - 4) (whole ++ tail) ≡ whole = ap (λ n. take n (whole ++ tail)) at ∙ take-append_seam whole tail in
    let back : drop (length (whole ++ tail) - 4) (whole ++ tail) ≡ tail = ap (λ n. drop n (whole ++ tail)) at ∙ drop_at whole tail _ refl in
    ap₂ (λ f b. option_and_then (λ seconds. option_and_then (whole_time seconds) (thousandths_in b)) (number_of f)) front back
    ∙ ap₂ (λ n r. option_and_then (λ seconds. option_and_then (whole_time seconds) r) n)
    (number_of-decimal (ms / 1000) (omega arith)) (three_back (ms % 1000) (omega arith))
    ∙ whole_back ms small

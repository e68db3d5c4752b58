-- What the digits of bytes in a log spell.
use Rattle.std.proofs.Common.{◌≡◌, ◌+◌, ◌*◌, ◌%◌, ◌<◌, ◌≤◌, ◌==◌, ◌||◌, ◌⊎◌, inl, inr, ℕ, Bool, true, false, List, [], ◌∷◌, length, nat_lt, Option, Some, None, Result, Ok, Err, is_some, if◌then◌else◌, slice_index, refl, ap, arith, ne_eqb}
use Rattle.std.specs.Prelude.{All, codes}
use Rattle.std.specs.List.{AllPass, list_any}
use Rattle.std.specs.Char.{is_ascii_uppercase}
use Rattle.std.specs.Option.{ok_or}
use Rattle.std.specs.Result.{result_ok}
use Rattle.std.specs.Str.{bytes_eq}
use Rattle.std.proofs.lemmas.Bool.{cases_eq, cases_lt, or_parts}
use Rattle.std.proofs.lemmas.List.Elements.{All-from_get_or}
use Rattle.std.proofs.lemmas.List.Folds.{list_any_none}
use Rattle.std.proofs.lemmas.Bool.Decides.{nat_tests}
use Rattle.hex.specs.declared.error.FromHexError.{FromHexError}
use Rattle.hex.specs.Hex.{decode_of, decode_pairs, hex_digit_value, is_hex_digit, pair_value}
use Rattle.hex.proofs.HexLemmas.{decode_of-even, decode_of-ok}
use Rattle.qn_model.specs.declared.line_fault.LineFault.{LineFault}
use Rattle.qn_model.specs.declared.line_fault.LineFault.TheVariants.{BadNumber}
use Rattle.qn_model.specs.Lines.{◌>>=◌}
use Rattle.qn_audit.specs.Reading.{HasNoSpace, bytes_between, bytes_of, digits_of, is_empty}
use Rattle.qn_audit.proofs.OneWords.{none_passes}

-- a digit is no space
digit_no_space : (digit : ℕ) → is_hex_digit digit ≡ true → (digit == 32) ≡ false
digit_no_space digit is = elim (cases_eq digit 32) [
  | inl same ↦ absurd (let here : is_hex_digit 32 ≡ true = rw same at is in cc)
  | inr other ↦ ne_eqb digit 32 other
]

ok_from : (bad : Bool) (decoded : Result (List ℕ) FromHexError) (bytes : List ℕ)
    → (if bad then Err BadNumber else ok_or (result_ok decoded) BadNumber) ≡ Ok bytes → (bad ≡ false) × (decoded ≡ Ok bytes)
ok_from true decoded bytes ok = absurd cc
ok_from false (Ok found) bytes ok = (refl, cc)
ok_from false (Err fault) bytes ok = absurd cc

err_from : (bad : Bool) (decoded : Result (List ℕ) FromHexError) (fault : LineFault)
    → (if bad then Err BadNumber else ok_or (result_ok decoded) BadNumber) ≡ Err fault → fault ≡ BadNumber
err_from true decoded fault err = cc
err_from false (Ok found) fault err = absurd cc
err_from false (Err other) fault err = cc

some_byte : (word : List ℕ) → is_empty word ≡ false → 0 < length word
some_byte [] some = absurd cc
some_byte (first ∷ rest) some = omega arith

filled_word : (word : List ℕ) → 0 < length word → is_empty word ≡ false
filled_word [] some = absurd (omega arith)
filled_word (first ∷ rest) some = refl

-- the digits spelled these bytes
pub record Spelled (word bytes : List ℕ) : Type 0 where
  pub some : 0 < length word
  pub twice : length word ≡ 2 * length bytes
  pub digits : AllPass is_hex_digit word
  pub lower : All (λ digit. is_ascii_uppercase digit ≡ false) word

pub digits_of-ok : (word bytes : List ℕ) → digits_of word ≡ Ok bytes → Spelled word bytes
unfolding digits_of
digits_of-ok word bytes ok =
    let found = ok_from (is_empty word || nat_lt 1024 (length word) || list_any is_ascii_uppercase word) (decode_of word) bytes ok in
    let whole = or_parts (is_empty word || nat_lt 1024 (length word)) (list_any is_ascii_uppercase word) found.0 in
    let short = or_parts (is_empty word) (nat_lt 1024 (length word)) whole.0 in
    let decoded = decode_of-ok word bytes found.1 in
    record { some = some_byte word short.0; twice = decoded.2; digits = decoded.1; lower = none_passes is_ascii_uppercase word whole.1 }

pub digits_of-err : (word : List ℕ) (fault : LineFault) → digits_of word ≡ Err fault → fault ≡ BadNumber
unfolding digits_of
digits_of-err word fault err =
    err_from (is_empty word || nat_lt 1024 (length word) || list_any is_ascii_uppercase word) (decode_of word) fault err

-- digits are one word
pub digits_no_space : (word bytes : List ℕ) → digits_of word ≡ Ok bytes → HasNoSpace word
digits_no_space word bytes ok =
    let spelled = digits_of-ok word bytes ok in
    λ k d within. digit_no_space _ (spelled.digits k d within)

not_ok : (found : Result (List ℕ) LineFault) → ((fault : LineFault) → found ≡ Err fault → fault ≡ BadNumber) → ((bytes : List ℕ) → found ≡ Ok bytes → ⊥) → found ≡ Err BadNumber
not_ok (Ok bytes) bad none = absurd (none bytes refl)
not_ok (Err fault) bad none = ap Err (bad fault refl)

no_digit : (up : Bool) (value : Option ℕ) → (if up then None else value) ≡ None → up ≡ false → is_some value ≡ true → ⊥
no_digit true value none lower some = cc
no_digit false (Some v) none lower some = cc
no_digit false None none lower some = cc

-- a byte that is no lower-case digit
pub digits_of-other : (word : List ℕ) (k : ℕ) → k < length word
    → (if is_ascii_uppercase (slice_index word k) then None else hex_digit_value (slice_index word k)) ≡ None → digits_of word ≡ Err BadNumber
digits_of-other word k within none = not_ok (digits_of word) (digits_of-err word)
    (λ bytes ok.
    let spelled = digits_of-ok word bytes ok in
    no_digit (is_ascii_uppercase (slice_index word k)) (hex_digit_value (slice_index word k)) none (spelled.lower k 0 within) (spelled.digits k 0 within))

wrong_bytes : (least most : ℕ) (found : Result (List ℕ) LineFault) → ((fault : LineFault) → found ≡ Err fault → fault ≡ BadNumber)
    → ((bytes : List ℕ) → found ≡ Ok bytes → (length bytes < least) ⊎ (most < length bytes))
    → (found >>= λ bytes. if nat_lt (length bytes) least || nat_lt most (length bytes) then Err BadNumber else Ok bytes) ≡ Err BadNumber
wrong_bytes least most (Err fault) bad wrong = ap Err (bad fault refl)
wrong_bytes least most (Ok bytes) bad wrong = elim (wrong bytes refl) [
  | inl few ↦ grind (arith, nat_tests)
  | inr more ↦ grind (arith, nat_tests)
]

-- a word whose digits are too few or too many
pub bytes_between-other : (least most : ℕ) (word : List ℕ) → bytes_eq word (codes "-") ≡ false
    → ((bytes : List ℕ) → 0 < length word → length word ≡ 2 * length bytes → (length bytes < least) ⊎ (most < length bytes))
    → bytes_between least most word ≡ Err BadNumber
unfolding bytes_between bytes_of
bytes_between-other least most word some wrong =
    rw some (wrong_bytes least most (digits_of word) (digits_of-err word)
    (λ bytes ok. let spelled = digits_of-ok word bytes ok in wrong bytes spelled.some spelled.twice))

-- a lower-case digit, by its value
digit_value : (up : Bool) (found : Option ℕ) (value : ℕ) → (if up then None else found) ≡ Some value → (up ≡ false) × (found ≡ Some value)
digit_value true found value is = absurd cc
digit_value false found value is = (refl, is)

-- a pair of lower-case digits at place `2 * i`
pub record IsPair (word : List ℕ) (i high low : ℕ) : Type 0 where
  pub high_is : (if is_ascii_uppercase (slice_index word (2 * i)) then None else hex_digit_value (slice_index word (2 * i))) ≡ Some high
  pub low_is : (if is_ascii_uppercase (slice_index word (2 * i + 1)) then None else hex_digit_value (slice_index word (2 * i + 1))) ≡ Some low

pub pair_value-lower : (word : List ℕ) (i high low : ℕ) → IsPair word i high low
    → pair_value (slice_index word (2 * i)) (slice_index word (2 * i + 1)) (2 * i) ≡ Ok (high * 16 + low)
pair_value-lower word i high low pair =
    let first = digit_value (is_ascii_uppercase (slice_index word (2 * i))) (hex_digit_value (slice_index word (2 * i))) high pair.high_is in
    let second = digit_value (is_ascii_uppercase (slice_index word (2 * i + 1))) (hex_digit_value (slice_index word (2 * i + 1))) low pair.low_is in
    rw (first.1, second.1) refl

-- no digit of the first pairs has upper case
abbrev pub AreLower : List ℕ → ℕ → Type 0
AreLower word count = (k : ℕ) → k < count → is_ascii_uppercase (slice_index word k) ≡ false

pub more_lower : (word : List ℕ) (i high low : ℕ) → IsPair word i high low → AreLower word (2 * i) → AreLower word (2 * (i + 1))
more_lower word i high low pair before k within =
    let first = digit_value (is_ascii_uppercase (slice_index word (2 * i))) (hex_digit_value (slice_index word (2 * i))) high pair.high_is in
    let second = digit_value (is_ascii_uppercase (slice_index word (2 * i + 1))) (hex_digit_value (slice_index word (2 * i + 1))) low pair.low_is in
    elim (cases_lt k (2 * i)) [
      | inl below ↦ before k below
      | inr above ↦ elim (cases_eq k (2 * i)) [
        | inl same ↦ rw same first.0
        | inr other ↦ let next : k ≡ 2 * i + 1 = omega arith in rw next second.0
      ]
    ]

-- digits of which none has upper case spell what they decode to
pub digits_of-decoded : (word bytes : List ℕ) → 0 < length word → length word ≤ 1024 → length word ≡ 2 * length bytes → AreLower word (length word)
    → decode_pairs 0 word ≡ Ok bytes → digits_of word ≡ Ok bytes
unfolding digits_of
digits_of-decoded word bytes some short twice lower decoded =
    let none : list_any is_ascii_uppercase word ≡ false =
    list_any_none is_ascii_uppercase word (All-from_get_or (λ digit. is_ascii_uppercase digit ≡ false) word 0 lower) in
    let filled : is_empty word ≡ false = filled_word word some in
    let few : nat_lt 1024 (length word) ≡ false = grind (arith, nat_tests) in
    let even : length word % 2 ≡ 0 = omega arith in
    rw (filled, few, none, decode_of-even word even, decoded) refl

-- `-`, where no bytes are too few or enough
pub bytes_between-none_few : (least most : ℕ) (word : List ℕ) → bytes_eq word (codes "-") ≡ true → 0 < least → bytes_between least most word ≡ Err BadNumber
unfolding bytes_between bytes_of
bytes_between-none_few least most word none few =
    let low : nat_lt 0 least ≡ true = grind (arith, nat_tests) in
    rw (none, low) refl

pub bytes_between-none : (least most : ℕ) (word : List ℕ) → bytes_eq word (codes "-") ≡ true → least ≤ 0 → bytes_between least most word ≡ Ok []
unfolding bytes_between bytes_of
bytes_between-none least most word none enough =
    let low : nat_lt 0 least ≡ false = grind (arith, nat_tests) in
    let high : nat_lt most 0 ≡ false = grind (arith, nat_tests) in
    rw (none, low, high) refl

-- digits that are no bytes, and digits of so many bytes
pub bytes_between-err : (least most : ℕ) (word : List ℕ) (fault : LineFault) → bytes_eq word (codes "-") ≡ false → digits_of word ≡ Err fault → bytes_between least most word ≡ Err fault
unfolding bytes_between bytes_of
bytes_between-err least most word fault some err = rw (some, err) refl

pub bytes_between-ok : (least most : ℕ) (word bytes : List ℕ) → bytes_eq word (codes "-") ≡ false → digits_of word ≡ Ok bytes
    → least ≤ length bytes → length bytes ≤ most → bytes_between least most word ≡ Ok bytes
unfolding bytes_between bytes_of
bytes_between-ok least most word bytes some ok few more =
    let low : nat_lt (length bytes) least ≡ false = grind (arith, nat_tests) in
    let high : nat_lt most (length bytes) ≡ false = grind (arith, nat_tests) in
    rw (some, ok, low, high) refl

-- A value is read back.
use Rattle.std.proofs.Common.{◌≡◌, ◌≤◌, ◌<◌, ◌+◌, ◌-◌, ◌*◌, ◌/◌, ◌%◌, ◌==◌, ℕ, Bool, true, false, List, [], ◌∷◌, ◌++◌, Option, Some, None, option_and_then, option_map, refl, sym, ap, ◌∙◌, arith, nat_le, if◌then◌else◌}
use Rattle.std.specs.Prelude.{All}
use Rattle.std.proofs.lemmas.Bool.Decides.{nat_tests}
use Rattle.std.proofs.lemmas.List.Elements.{All-head, All-tail}
use Rattle.qn_event.specs.EventTexts.{escape_of, hex_digit, is_value_byte}
use Rattle.qn_event.specs.ValuesRead.{byte_before, byte_of, byte_of_digits, digit_value, value_in, value_text}

digit_back : (digit : ℕ) → digit < 16 → digit_value (hex_digit digit) ≡ Some digit
digit_back digit small = grind (arith, nat_tests)

no_sign : (digit : ℕ) → (hex_digit digit == 37) ≡ false
no_sign digit = grind (arith, nat_tests)

-- a digit stands for itself
digit_before : (digit : ℕ) (later : List ℕ) → byte_before (hex_digit digit) later ≡ Some (hex_digit digit ∷ later)
digit_before digit later = ap (λ test. if test then byte_of_digits later else Some (hex_digit digit ∷ later)) (no_sign digit)

plain_is : (byte : ℕ) → is_value_byte byte ≡ true → (byte == 37) ≡ false
plain_is byte plain = grind (arith, nat_tests)

halves : (byte : ℕ) → 16 * (byte / 16) + byte % 16 ≡ byte
halves byte = omega arith

-- a byte as a value says it, before what was read
escape_back : (byte : ℕ) (rest read : List ℕ) → byte < 256 → value_in rest ≡ Some read → value_in (escape_of byte ++ rest) ≡ Some (byte ∷ read)
escape_back byte rest read small known = by_kind (is_value_byte byte) refl
  where
    by_kind : (plain : Bool) → is_value_byte byte ≡ plain
        → value_in ((if plain then byte ∷ [] else 37 ∷ hex_digit (byte / 16) ∷ hex_digit (byte % 16) ∷ []) ++ rest) ≡ Some (byte ∷ read)
    by_kind true plain =
        ap (option_and_then (byte_before byte)) known
        ∙ ap (λ test. if test then byte_of_digits read else Some (byte ∷ read)) (plain_is byte plain)
    by_kind false coded =
        let high = byte / 16 in
        let low = byte % 16 in
        let low_read = ap (option_and_then (byte_before (hex_digit low))) known ∙ digit_before low read in
        let high_read = ap (option_and_then (byte_before (hex_digit high))) low_read ∙ digit_before high (hex_digit low ∷ read) in
        let high_small : high < 16 = omega (arith, small) in
        let low_small : low < 16 = omega arith in
        let value : byte_of (hex_digit high) (hex_digit low) ≡ Some byte =
        ap (option_and_then (λ first. option_map (λ second. 16 * first + second) (digit_value (hex_digit low)))) (digit_back high high_small)
        ∙ ap (option_map (λ second. 16 * high + second)) (digit_back low low_small) ∙ ap (λ n. Some n) (halves byte) in
        ap (option_and_then (byte_before 37)) high_read ∙ ap (option_map (λ n. n ∷ read)) value

pub value_back : (value : List ℕ) → All (λ byte. byte < 256) value → value_in (value_text value) ≡ Some value
value_back [] small = refl
value_back (byte ∷ rest) small =
    escape_back byte (value_text rest) rest (All-head (λ byte. byte < 256) byte rest small) (value_back rest (All-tail (λ byte. byte < 256) byte rest small))

-- Texts that are one word.
use Rattle.std.proofs.Common.{◌≡◌, ◌<◌, ◌==◌, ◌&&◌, ◌||◌, ℕ, Bool, true, false, List, [], ◌∷◌, length, ◌^◌, nat_le, nat_lt, if◌then◌else◌, inl, inr, Some, None, Result, Ok, Err, is_ok, refl, sym, ap, arith}
use Rattle.std.specs.Prelude.{All}
use Rattle.std.specs.List.{list_any, onto_first}
use Rattle.std.specs.Char.{is_ascii_digit}
use Rattle.std.specs.Option.{ok_or}
use Rattle.std.specs.Str.{all_ascii_digits}
use Rattle.std.specs.Str.Parse.{digits_value}
use Rattle.std.proofs.lemmas.Bool.{or_parts, and_parts, cases_eq}
use Rattle.std.proofs.lemmas.List.Elements.{All-cons, All-nil}
use Rattle.std.proofs.lemmas.List.Splits.{slice_split_none, length-slice_split}
use Rattle.std.proofs.Common.{ne_eqb}
use Rattle.qn_base.specs.Decimal.{is_decimal, number_of}
use Rattle.qn_model.specs.declared.line_fault.LineFault.{LineFault}
use Rattle.qn_model.specs.declared.line_fault.LineFault.TheVariants.{BadCount, BadNumber}
use Rattle.qn_model.specs.Lines.{◌>>=◌, has_leading_zero, number_between, two_words, words_of}
use Rattle.qn_sched.specs.Words.{one_word}
use Rattle.qn_audit.specs.Reading.{HasNoSpace}

-- a test that no element passes
pub none_passes : {X : Type 0} (test : X → Bool) (xs : List X) → list_any test xs ≡ false → All (λ x. test x ≡ false) xs
none_passes test [] none = All-nil (λ x. test x ≡ false)
none_passes test (x ∷ xs) none =
    let both = or_parts (test x) (list_any test xs) none in
    All-cons (λ y. test y ≡ false) x xs both.0 (none_passes test xs both.1)

-- a text without a space
pub one_word-alone : (text : List ℕ) → HasNoSpace text → one_word (words_of text) ≡ Ok text
one_word-alone text none = ap one_word (slice_split_none (λ byte. byte == 32) text none)

pub one_word-unspaced : (text : List ℕ) → list_any (λ byte. byte == 32) text ≡ false → one_word (words_of text) ≡ Ok text
one_word-unspaced text none = one_word-alone text (none_passes (λ byte. byte == 32) text none)

many : (words : List (List ℕ)) → 1 < length words → one_word words ≡ Err BadCount
many [] more = absurd (omega arith)
many (first ∷ []) more = absurd (omega arith)
many (first ∷ second ∷ words) more = refl

still_many : (byte : ℕ) (words : List (List ℕ)) → 1 < length words → 1 < length (onto_first byte words)
still_many byte [] more = absurd (omega arith)
still_many byte (first ∷ words) more = more

parted_first : (byte : ℕ) (text : List ℕ) (here : Bool) → (byte == 32) ≡ here → (here || list_any (λ b. b == 32) text) ≡ true
    → (list_any (λ b. b == 32) text ≡ true → 1 < length (words_of text)) → 1 < length (words_of (byte ∷ text))
parted_first byte text true is some more = rw is (omega (arith, length-slice_split (λ b. b == 32) text))
parted_first byte text false is some more = rw is (still_many byte (words_of text) (more some))

parted : (text : List ℕ) → list_any (λ byte. byte == 32) text ≡ true → 1 < length (words_of text)
parted [] some = absurd cc
parted (byte ∷ text) some = parted_first byte text (byte == 32) refl some (parted text)

-- a text with a space
pub one_word-spaced : (text : List ℕ) → list_any (λ byte. byte == 32) text ≡ true → one_word (words_of text) ≡ Err BadCount
one_word-spaced text some = many (words_of text) (parted text some)

-- one more word before the others
pub two_words-first : (first : List ℕ) (words : List (List ℕ)) → two_words (first ∷ words) ≡ (one_word words >>= λ second. Ok (first, second))
two_words-first first [] = refl
two_words-first first (second ∷ []) = refl
two_words-first first (second ∷ third ∷ words) = refl

digits_no_space : (text : List ℕ) → all_ascii_digits text ≡ true → HasNoSpace text
digits_no_space [] digits = All-nil (λ byte. (byte == 32) ≡ false)
digits_no_space (digit ∷ text) digits =
    let both = and_parts (is_ascii_digit digit) (all_ascii_digits text) digits in
    All-cons (λ byte. (byte == 32) ≡ false) digit text (other digit both.0) (digits_no_space text both.1)
  where
    other : (digit : ℕ) → is_ascii_digit digit ≡ true → (digit == 32) ≡ false
    other digit is = elim (cases_eq digit 32) [
      | inl same ↦ absurd (let here : is_ascii_digit 32 ≡ true = rw same at is in cc)
      | inr different ↦ ne_eqb digit 32 different
    ]

some_number : (decimal fits : Bool) (value number : ℕ) → ok_or (if decimal && fits then Some value else None) BadNumber ≡ Ok number → decimal ≡ true
some_number true true value number ok = refl
some_number true false value number ok = absurd cc
some_number false fits value number ok = absurd cc

ok_of_first : (first : Result ℕ LineFault) (next : ℕ → Result ℕ LineFault) (number : ℕ) → (first >>= next) ≡ Ok number → (found : ℕ) × (first ≡ Ok found)
ok_of_first (Ok found) next number ok = (found, refl)
ok_of_first (Err fault) next number ok = absurd cc

-- a number is one word
number_spaced : (low high : ℕ) (word : List ℕ) (number : ℕ) → number_between low high word ≡ Ok number → HasNoSpace word
unfolding number_between
number_spaced low high word number ok =
    let found = ok_of_first (ok_or (number_of word) BadNumber) (λ n. if has_leading_zero word || nat_lt n low || nat_lt high n then Err BadNumber else Ok n) number ok in
    let decimal = some_number (is_decimal word) (nat_lt (digits_value 10 word) (2 ^ 64)) (digits_value 10 word) found.0 found.1 in
    let parts = and_parts (nat_le 1 (length word) && nat_le (length word) 20) (all_ascii_digits word) decimal in
    digits_no_space word parts.1

pub number_no_space : (low high : ℕ) (word : List ℕ) (found : Result ℕ LineFault) → found ≡ number_between low high word → is_ok found ≡ true → HasNoSpace word
number_no_space low high word (Ok number) is ok = number_spaced low high word number (sym is)
number_no_space low high word (Err fault) is ok = absurd cc

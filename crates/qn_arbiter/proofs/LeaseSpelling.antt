-- A lease line is accepted exactly where it is the spelling of two times in range.
use Rattle.std.proofs.Common.{◌≡◌, ℕ, ◌≤◌, Bool, true, false, ◌&&◌, ◌↔◌, IsTrue, List, [], ◌∷◌, length, Ok, Err, refl, sym, ap, ◌∙◌, subst, arith, nat_lt, nat_le, cond, lit<}
use Rattle.std.specs.Prelude.{decimal, codes}
use Rattle.std.specs.List.{join_with_byte}
use Rattle.std.specs.Str.{bytes_eq}
use Rattle.std.proofs.lemmas.Bool.{leb-true, le-ltb, and_parts, cond-false}
use Rattle.std.proofs.lemmas.Bool.Decides.{nat_tests}
use Rattle.std.proofs.lemmas.Fmt.{length-decimal-le}
use Rattle.std.proofs.lemmas.List.{length-append}
use Rattle.std.proofs.lemmas.List.Splits.{join_with_byte-slice_split}
use Rattle.std.proofs.lemmas.Slice.Eq.{bytes_eq-Decides}
use Rattle.qn_safety.specs.declared.lease.Lease.{Lease}
use Rattle.qn_safety.specs.Lease.{is_in_range}
use Rattle.qn_model.specs.declared.line_fault.LineFault.TheVariants.{TooLong, UnknownWord}
use Rattle.qn_model.specs.lemmas.Lines.{bind_ok, same_ok, two_words-ok}
use Rattle.qn_model.specs.Lines.{number_between, two_words, words_of}
use Rattle.qn_model.specs.Rules.{is_between}
use Rattle.qn_arbiter.specs.LeaseLine.{lease_line, lease_of, lease_of_words, times_of_words}
use Rattle.qn_sched.specs.WrittenNumbers.{decimal_blankless, number_between-decimal, number_between-ok}
use Rattle.qn_arbiter.proofs.WordsOfLines.{words_joined}

-- the words of a lease line after its first
abbrev words_of_times : Lease → List (List ℕ)
words_of_times times = decimal times.limit ∷ decimal times.lease ∷ []

between : (low high n : ℕ) → low ≤ n → n ≤ high → is_between low high n ≡ true
between low high n above below = grind (arith, nat_tests, above, below)

-- two times that were accepted
record AreTimes (words : List (List ℕ)) (times : Lease) : Type 0 where
  pub words_are : words ≡ words_of_times times
  pub in_range : is_in_range times ≡ true

times_ok : (words : List (List ℕ)) (times : Lease) → times_of_words words ≡ Ok times → AreTimes words times
unfolding times_of_words
times_ok words times is =
    let pair = bind_ok (two_words words) _ times is in
    let first = bind_ok (number_between 1 3600000 pair.0.0) _ times pair.2 in
    let second = bind_ok (number_between 1 36000000 pair.0.1) _ times first.2 in
    let limit = number_between-ok 1 3600000 pair.0.0 first.0 first.1 in
    let lease = number_between-ok 1 36000000 pair.0.1 second.0 second.1 in
    let same : Lease = record { limit = first.0; lease = second.0 } in
    subst (λ (t : Lease). AreTimes words t) (same_ok same times second.2)
    (record {
      words_are = two_words-ok words pair.0 pair.1 ∙ ap (λ w. w ∷ pair.0.1 ∷ []) limit.word_is ∙ ap (λ w. decimal first.0 ∷ w ∷ []) lease.word_is;
      in_range =
          ap (λ b. b && is_between 1 36000000 second.0) (between 1 3600000 first.0 limit.above limit.below)
          ∙ between 1 36000000 second.0 lease.above lease.below;
    })

-- two times in range
record AreSmall (times : Lease) : Type 0 where
  pub limit_from : 1 ≤ times.limit
  pub limit_to : times.limit ≤ 3600000
  pub lease_from : 1 ≤ times.lease
  pub lease_to : times.lease ≤ 36000000

are_small : (times : Lease) → is_in_range times ≡ true → AreSmall times
are_small times all =
    let both = and_parts (is_between 1 3600000 times.limit) (is_between 1 36000000 times.lease) all in
    let limit = and_parts (nat_le 1 times.limit) (nat_le times.limit 3600000) both.0 in
    let lease = and_parts (nat_le 1 times.lease) (nat_le times.lease 36000000) both.1 in
    record {
      limit_from = leb-true 1 times.limit limit.0;
      limit_to = leb-true times.limit 3600000 limit.1;
      lease_from = leb-true 1 times.lease lease.0;
      lease_to = leb-true times.lease 36000000 lease.1;
    }

times_accepted : (times : Lease) → AreSmall times → times_of_words (words_of_times times) ≡ Ok times
unfolding times_of_words
times_accepted times small =
    let limit_to = small.limit_to in
    let lease_to = small.lease_to in
    rw (number_between-decimal 1 3600000 times.limit small.limit_from limit_to (omega arith), number_between-decimal 1 36000000 times.lease small.lease_from lease_to (omega arith)) refl

-- the words of the spelling
words_of_line : (times : Lease) → AreSmall times → words_of (lease_line times) ≡ codes "lease" ∷ words_of_times times
words_of_line times small =
    let limit_to = small.limit_to in
    let lease_to = small.lease_to in
    ap (λ words. codes "lease" ∷ words)
    (words_joined (decimal times.limit) (decimal times.lease ∷ [])
    (decimal_blankless times.limit (omega arith), (decimal_blankless times.lease (omega arith), tt)))

length_line : (times : Lease) → AreSmall times → length (lease_line times) ≤ 4096
length_line times small =
    let limit_to = small.limit_to in
    let lease_to = small.lease_to in
    let first : length (decimal times.limit) ≤ 20 = length-decimal-le 20 times.limit (lit< tt) (omega arith) (omega arith) in
    let second : length (decimal times.lease) ≤ 20 = length-decimal-le 20 times.lease (lit< tt) (omega arith) (omega arith) in
    let whole = length-append (decimal times.limit) (32 ∷ decimal times.lease) in
    omega (arith, first, second, whole)

-- a line by its first word
by_first : (first : List ℕ) (words : List (List ℕ)) (times : Lease) (b : Bool) → bytes_eq first (codes "lease") ≡ b
    → cond b (times_of_words words) (Err UnknownWord) ≡ Ok times → (first ∷ words ≡ codes "lease" ∷ words_of_times times) × (is_in_range times ≡ true)
by_first first words times true same is =
    let it = times_ok words times is in
    (ap (λ w. w ∷ words) ((bytes_eq-Decides first (codes "lease")).0 same) ∙ ap (λ ws. codes "lease" ∷ ws) it.words_are, it.in_range)
by_first first words times false same is = cc

words_ok : (words : List (List ℕ)) (times : Lease) → lease_of_words words ≡ Ok times → (words ≡ codes "lease" ∷ words_of_times times) × (is_in_range times ≡ true)
unfolding lease_of_words
words_ok [] times is = cc
words_ok (first ∷ words) times is = by_first first words times (bytes_eq first (codes "lease")) refl is

-- a line that was accepted is not too long
short_line : (line : List ℕ) (times : Lease) (b : Bool) → cond b (Err TooLong) (lease_of_words (words_of line)) ≡ Ok times → lease_of_words (words_of line) ≡ Ok times
short_line line times true is = cc
short_line line times false is = is

line_accepted : (times : Lease) → is_in_range times ≡ true → lease_of (lease_line times) ≡ Ok times
unfolding lease_of lease_of_words
line_accepted times all =
    let small = are_small times all in
    let short : nat_lt 4096 (length (lease_line times)) ≡ false = le-ltb 4096 (length (lease_line times)) (length_line times small) in
    cond-false (nat_lt 4096 (length (lease_line times))) (Err TooLong) (lease_of_words (words_of (lease_line times))) short
    ∙ ap lease_of_words (words_of_line times small) ∙ times_accepted times small

-- a line is accepted exactly where it is the spelling of times in range
pub lease_spelled : (line : List ℕ) (times : Lease) → (lease_of line ≡ Ok times) ↔ (IsTrue (is_in_range times) × (line ≡ lease_line times))
unfolding lease_of
lease_spelled line times = (
  λ is.
      let words = words_ok (words_of line) times (short_line line times (nat_lt 4096 (length line)) is) in
      (words.1, sym (join_with_byte-slice_split 32 line) ∙ ap (join_with_byte 32) words.0),
  λ both. ap lease_of both.1 ∙ line_accepted times both.0,
)

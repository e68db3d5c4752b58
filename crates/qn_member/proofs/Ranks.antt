-- Sets of ranks.
use Rattle.std.proofs.Common.{◌≡◌, ◌≢◌, ℕ, suc, zero, ◌+◌, ◌*◌, ◌/◌, ◌%◌, ◌^◌, ◌&&◌, ◌<◌, ◌≤◌, Bool, true, false, ◌||◌, refl, sym, ◌∙◌, ap, subst, arith, eq-eqb, max, cond, lit<, ◌⊎◌, inl, inr}
use Rattle.std.specs.Prelude.{◌==◌, nat_lt, bit_or}
use Rattle.std.specs.Int.{bit_at}
use Rattle.std.proofs.lemmas.Bool.{cases_lt, false≢true}
use Rattle.std.proofs.lemmas.Bool.Decides.{nat_tests, Decides-eqb}
use Rattle.std.proofs.lemmas.Nat.{or_lt}
use Rattle.std.proofs.lemmas.Nat.Bits.{bit_at-lt, bit_at_or, bit_at-zero, bit_at-pow_same, bit_at-pow_other, bit_at_above, bit_at_cat_low, same_from_bits, same_from_bits_below}
use Rattle.std.proofs.Math.Pow.{pow-lt}
use Rattle.std.proofs.lemmas.Nat.{pow_pos}
use Rattle.qn_member.specs.Maker.{ranks_that}

-- two bits of which the same test says the same are equal
same_bit : (x y : ℕ) → x < 2 → y < 2 → (x == 1) ≡ (y == 1) → x ≡ y
same_bit x y low high same = grind (arith, nat_tests)

bit_of : (a k j : ℕ) (b : Bool) → (k == j) ≡ b → (bit_at (bit_or a (2 ^ k)) j == 1) ≡ (b || bit_at a j == 1)
bit_of a k j true is =
    let same : k ≡ j = (Decides-eqb k j).0 is in
    let set : bit_at (2 ^ k) j ≡ 1 = subst (λ i. bit_at (2 ^ k) i ≡ 1) same (bit_at-pow_same k) in
    let old = bit_at-lt a j in
    let is_one : bit_at (bit_or a (2 ^ k)) j ≡ 1 = bit_at_or a (2 ^ k) j ∙ (ap (max (bit_at a j)) set ∙ omega arith) in
    ap (λ bit. bit == 1) is_one
bit_of a k j false is =
    let other : j ≢ k = λ e. false≢true (sym is ∙ eq-eqb k j (sym e)) in
    let clear : bit_at (2 ^ k) j ≡ 0 = bit_at-pow_other k j other in
    let same : bit_at (bit_or a (2 ^ k)) j ≡ bit_at a j = bit_at_or a (2 ^ k) j ∙ (ap (max (bit_at a j)) clear ∙ omega arith) in
    ap (λ bit. bit == 1) same

-- the bits of a set with one more rank
bit_with : (a k j : ℕ) → (bit_at (bit_or a (2 ^ k)) j == 1) ≡ (k == j || bit_at a j == 1)
bit_with a k j = bit_of a k j (k == j) refl

-- a set that has a rank and the members of another is that one with the rank
pub with_rank : (a k with : ℕ) → a < 2 ^ 32 → with < 2 ^ 32 → k < 32
    → ((j : ℕ) → j < 32 → (bit_at with j == 1) ≡ (k == j || bit_at a j == 1))
    → with ≡ bit_or a (2 ^ k)
with_rank a k with fits below within members =
    same_from_bits_below 32 with (bit_or a (2 ^ k)) below (or_lt 32 a (2 ^ k) fits (pow-lt within))
    (λ j under. same_bit (bit_at with j) (bit_at (bit_or a (2 ^ k)) j) (bit_at-lt _ _) (bit_at-lt _ _) (members j under ∙ sym (bit_with a k j)))

wider : (a count : ℕ) → a < 2 ^ count → a < 2 ^ suc count
wider a count fits = let more : 2 ^ count < 2 ^ suc count = pow-lt (omega arith) in omega arith

one_more_lt : (a count : ℕ) (b : Bool) → a < 2 ^ count → cond b (bit_or a (2 ^ count)) a < 2 ^ suc count
one_more_lt a count true fits = or_lt (suc count) a (2 ^ count) (wider a count fits) (pow-lt (omega arith))
one_more_lt a count false fits = wider a count fits

-- the ranks below a number that pass a test are a number below that power of two
pub ranks_that-lt : (test : ℕ → Bool) (count : ℕ) → ranks_that test count < 2 ^ count
unfolding ranks_that
ranks_that-lt test zero = lit< tt
ranks_that-lt test (suc count) = one_more_lt (ranks_that test count) count (test count) (ranks_that-lt test count)

ranks_that-more : (test : ℕ → Bool) (rank : ℕ) (b : Bool) → test rank ≡ b
    → ranks_that test (rank + 1) ≡ cond b (bit_or (ranks_that test rank) (2 ^ rank)) (ranks_that test rank)
unfolding ranks_that
ranks_that-more test rank b is =
    let next : rank + 1 ≡ suc rank = omega arith in
    ap (ranks_that test) next ∙ ap (λ b. cond b (bit_or (ranks_that test rank) (2 ^ rank)) (ranks_that test rank)) is

-- one rank more, that passes or not
pub with_passing : (test : ℕ → Bool) (before with rank : ℕ) → rank < 32 → with < 2 ^ 32 → test rank ≡ true
    → before ≡ ranks_that test rank
    → ((j : ℕ) → j < 32 → (bit_at with j == 1) ≡ (rank == j || bit_at before j == 1))
    → with ≡ ranks_that test (rank + 1)
with_passing test before with rank within fits passes is members =
    let low : ranks_that test rank < 2 ^ rank = ranks_that-lt test rank in
    let wide : 2 ^ rank < 2 ^ 32 = pow-lt within in
    let narrow : before < 2 ^ 32 = omega arith in
    with_rank before rank with narrow fits within members
    ∙ (ap (λ a. bit_or a (2 ^ rank)) is ∙ sym (ranks_that-more test rank true passes))

pub without_passing : (test : ℕ → Bool) (before rank : ℕ) → test rank ≡ false → before ≡ ranks_that test rank
    → before ≡ ranks_that test (rank + 1)
without_passing test before rank refused is = is ∙ sym (ranks_that-more test rank false refused)

-- the whole set
pub all_ranks-lt : (test : ℕ → Bool) (members count rank : ℕ) → rank ≤ count → count ≤ rank → members ≡ ranks_that test rank
    → nat_lt members (2 ^ count) ≡ true
all_ranks-lt test members count rank low high is =
    let same : rank ≡ count = omega arith in
    let fits : members < 2 ^ count = subst (λ n. n < 2 ^ count) (sym is) (subst (λ n. ranks_that test rank < 2 ^ n) same (ranks_that-lt test rank)) in
    grind (arith, nat_tests)

-- a member of a number below a power of two is below its exponent
pub member-lt : (members count rank : ℕ) → nat_lt members (2 ^ count) ≡ true → (bit_at members rank == 1) ≡ true → rank < count
member-lt members count rank few member = below (cases_lt rank count)
  where
    below : (rank < count) ⊎ (count ≤ rank) → rank < count
    below (inl under) = under
    below (inr over) =
        let fits : members < 2 ^ count = grind (arith, nat_tests) in
        absurd (false≢true (sym (ap (λ bit. bit == 1) (bit_at_above members count rank fits over)) ∙ member))

-- and a number whose members are below an exponent is below that power of two
no_bit : (members rank : ℕ) (b : Bool) → (bit_at members rank == 1) ≡ b → (b ≡ true → ⊥) → bit_at members rank ≡ 0
no_bit members rank true is none = absurd (none refl)
no_bit members rank false is none =
    let low = bit_at-lt members rank in
    let bit : bit_at members rank ≡ 0 = grind (arith, nat_tests) in bit

bit_of_rest : (members count rest rank : ℕ) → rest < 2 ^ count → members / 2 ^ count * 2 ^ count + rest ≡ members
    → ((rank : ℕ) → count ≤ rank → bit_at members rank ≡ 0) → (rank < count) ⊎ (count ≤ rank) → bit_at members rank ≡ bit_at rest rank
bit_of_rest members count rest rank low whole none (inl under) =
    ap (λ n. bit_at n rank) (sym whole) ∙ bit_at_cat_low (members / 2 ^ count) count rest rank under
bit_of_rest members count rest rank low whole none (inr over) = none rank over ∙ sym (bit_at_above rest count rank low over)

pub members-lt : (members count : ℕ) → ((rank : ℕ) → (bit_at members rank == 1) ≡ true → rank < count) → nat_lt members (2 ^ count) ≡ true
members-lt members count few =
    let rest = members % 2 ^ count in
    let some : 0 < 2 ^ count = pow_pos count in
    let low : rest < 2 ^ count = omega arith in
    let whole : members / 2 ^ count * 2 ^ count + rest ≡ members = omega arith in
    let none : (rank : ℕ) → count ≤ rank → bit_at members rank ≡ 0 =
    λ rank over. no_bit members rank (bit_at members rank == 1) refl (λ is. let under : rank < count = few rank is in omega arith) in
    let same : members ≡ rest = same_from_bits members rest (λ rank. bit_of_rest members count rest rank low whole none (cases_lt rank count)) in
    let fits : members < 2 ^ count = omega arith in
    grind (arith, nat_tests)

added_bit : (set count rank : ℕ) (b : Bool)
    → (bit_at (cond b (bit_or set (2 ^ count)) set) rank == 1) ≡ (b && count == rank || bit_at set rank == 1)
added_bit set count rank true = bit_with set count rank
added_bit set count rank false = refl

-- a rank that is below a number or is it
one_test_more : (test : ℕ → Bool) (count rank : ℕ) (b : Bool) → test count ≡ b → (rank < count) ⊎ (count ≤ rank)
    → (b && count == rank || nat_lt rank count && test rank) ≡ (nat_lt rank (suc count) && test rank)
one_test_more test count rank b is (inl under) =
    let before : nat_lt rank count ≡ true = grind (arith, nat_tests) in
    let within : nat_lt rank (suc count) ≡ true = grind (arith, nat_tests) in
    let other : (count == rank) ≡ false = grind (arith, nat_tests) in
    rw (before, within, other) (no_other b)
  where
    no_other : (b : Bool) → (b && false || test rank) ≡ test rank
    no_other true = refl
    no_other false = refl
one_test_more test count rank b is (inr over) =
    let past : nat_lt rank count ≡ false = grind (arith, nat_tests) in
    let same : (count == rank) ≡ nat_lt rank (suc count) = grind (arith, nat_tests) in
    rw (past, same) (at_count b (nat_lt rank (suc count)) refl is)
  where
    this_test : (b : Bool) → b ≡ test rank → (b && true || false) ≡ test rank
    this_test true same = same
    this_test false same = same

    at_count : (b inside : Bool) → nat_lt rank (suc count) ≡ inside → test count ≡ b → (b && inside || false) ≡ (inside && test rank)
    at_count b true last tested =
        let here : count ≡ rank = grind (arith, nat_tests) in
        this_test b (sym tested ∙ ap test here)
    at_count true false last tested = refl
    at_count false false last tested = refl

-- a rank is in the set exactly where it is below the number and passes the test
pub member_of-ranks_that : (test : ℕ → Bool) (count rank : ℕ)
    → (bit_at (ranks_that test count) rank == 1) ≡ (nat_lt rank count && test rank)
unfolding ranks_that
member_of-ranks_that test zero rank =
    let none : nat_lt rank 0 ≡ false = grind (arith, nat_tests) in
    rw none (ap (λ bit. bit == 1) (bit_at-zero rank))
member_of-ranks_that test (suc count) rank =
    added_bit (ranks_that test count) count rank (test count)
    ∙ (ap (λ b. test count && count == rank || b) (member_of-ranks_that test count rank)
    ∙ one_test_more test count rank (test count) refl (cases_lt rank count))

-- tests that agree below a number have the same set
pub ranks_that-same : (one other : ℕ → Bool) (count : ℕ) → ((rank : ℕ) → rank < count → one rank ≡ other rank) → ranks_that one count ≡ ranks_that other count
unfolding ranks_that
ranks_that-same one other zero same = refl
ranks_that-same one other (suc count) same =
    let rest = ranks_that-same one other count (λ rank below. same rank (omega arith)) in
    ap (λ b. cond b (bit_or (ranks_that one count) (2 ^ count)) (ranks_that one count)) (same count (omega arith))
    ∙ ap (λ n. cond (other count) (bit_or n (2 ^ count)) n) rest

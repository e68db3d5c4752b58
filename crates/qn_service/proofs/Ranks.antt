-- Who is in the set of the ranks that pass a test.
use Rattle.std.proofs.Common.{◌≡◌, ◌≢◌, ◌⊎◌, inl, inr, ℕ, suc, zero, ◌+◌, ◌^◌, ◌<◌, ◌≤◌, Bool, true, false, ◌&&◌, ◌==◌, cond, max, refl, sym, ◌∙◌, ap, subst, arith, eq-eqb}
use Rattle.std.specs.Prelude.{bit_or}
use Rattle.std.specs.Int.{bit_at}
use Rattle.std.specs.List.{list_all, range_with_len}
use Rattle.std.proofs.lemmas.Bool.{cases_lt, eqb-true, false≢true, true≢false}
use Rattle.std.proofs.lemmas.Nat.Bits.{bit_at-lt, bit_at_or, bit_at-zero, bit_at-pow_same, bit_at-pow_other}
use Rattle.qn_base.specs.declared.ids.Mask.{Mask}
use Rattle.qn_base.specs.Members.{is_member}
use Rattle.qn_member.specs.Maker.{ranks_that}

-- a rank that is in a set stays there
pub stays_in : (set more rank : ℕ) → is_member (record { 0 = set }) rank ≡ true → is_member (record { 0 = bit_or set more }) rank ≡ true
stays_in set more rank is =
    let one : bit_at set rank ≡ 1 = eqb-true (bit_at set rank) 1 is in
    let low = bit_at-lt more rank in
    eq-eqb (bit_at (bit_or set more) rank) 1 (bit_at_or set more rank ∙ (ap (λ bit. max bit (bit_at more rank)) one ∙ omega arith))

pub comes_in : (set rank : ℕ) → is_member (record { 0 = bit_or set (2 ^ rank) }) rank ≡ true
comes_in set rank =
    let low = bit_at-lt set rank in
    eq-eqb (bit_at (bit_or set (2 ^ rank)) rank) 1 (bit_at_or set (2 ^ rank) rank ∙ (ap (max (bit_at set rank)) (bit_at-pow_same rank) ∙ omega arith))

-- and no other rank comes in with one
stays_out : (set more rank : ℕ) → more ≢ rank → is_member (record { 0 = set }) rank ≡ false → is_member (record { 0 = bit_or set (2 ^ more) }) rank ≡ false
stays_out set more rank other is =
    let clear : bit_at (2 ^ more) rank ≡ 0 = bit_at-pow_other more rank (λ e. other (sym e)) in
    let low = bit_at-lt set rank in
    let same : bit_at (bit_or set (2 ^ more)) rank ≡ bit_at set rank = bit_at_or set (2 ^ more) rank ∙ (ap (max (bit_at set rank)) clear ∙ omega arith) in
    ap (λ bit. bit == 1) same ∙ is

-- a rank below the number that passes is in the set
pub passes_in : (test : ℕ → Bool) (count rank : ℕ) → rank < count → test rank ≡ true → is_member (record { 0 = ranks_that test count }) rank ≡ true
unfolding ranks_that
passes_in test zero rank under is = absurd (omega arith)
passes_in test (suc count) rank under is = by_place (cases_lt rank count) (λ before. passes_in test count rank before is)
  where
    old : (b : Bool) → is_member (record { 0 = ranks_that test count }) rank ≡ true
        → is_member (record { 0 = cond b (bit_or (ranks_that test count) (2 ^ count)) (ranks_that test count) }) rank ≡ true
    old true there = stays_in (ranks_that test count) (2 ^ count) rank there
    old false there = there

    new : (b : Bool) → b ≡ true → count ≡ rank
        → is_member (record { 0 = cond b (bit_or (ranks_that test count) (2 ^ count)) (ranks_that test count) }) rank ≡ true
    new true passes same = subst (λ r. is_member (record { 0 = bit_or (ranks_that test count) (2 ^ count) }) r ≡ true) same (comes_in (ranks_that test count) count)
    new false passes same = absurd (false≢true passes)

    by_place : (rank < count) ⊎ (count ≤ rank) → (rank < count → is_member (record { 0 = ranks_that test count }) rank ≡ true)
        → is_member (record { 0 = cond (test count) (bit_or (ranks_that test count) (2 ^ count)) (ranks_that test count) }) rank ≡ true
    by_place (inl before) there = old (test count) (there before)
    by_place (inr at) there =
        let same : count ≡ rank = omega arith in
        new (test count) (subst (λ r. test r ≡ true) (sym same) is) same

-- one that does not pass is not
pub fails_out : (test : ℕ → Bool) (count rank : ℕ) → test rank ≡ false → is_member (record { 0 = ranks_that test count }) rank ≡ false
unfolding ranks_that
fails_out test zero rank is = ap (λ bit. bit == 1) (bit_at-zero rank)
fails_out test (suc count) rank is = by_test (test count) refl (fails_out test count rank is)
  where
    by_test : (b : Bool) → test count ≡ b → is_member (record { 0 = ranks_that test count }) rank ≡ false
        → is_member (record { 0 = cond b (bit_or (ranks_that test count) (2 ^ count)) (ranks_that test count) }) rank ≡ false
    by_test true passes out = stays_out (ranks_that test count) count rank (λ same. true≢false (sym (subst (λ r. test r ≡ true) same passes) ∙ is)) out
    by_test false fails out = out

-- so a rank below the number that is not in the set does not pass
pub out_fails : (test : ℕ → Bool) (count rank : ℕ) → is_member (record { 0 = ranks_that test count }) rank ≡ false → rank < count → test rank ≡ false
out_fails test count rank out under = by_test (test rank) refl
  where
    by_test : (b : Bool) → test rank ≡ b → b ≡ false
    by_test true passes = absurd (false≢true (sym out ∙ passes_in test count rank under passes))
    by_test false fails = refl

-- where one is out not all are in
pub not_all_in : (members : Mask) (from count rank : ℕ) → from ≤ rank → rank < from + count → is_member members rank ≡ false
    → list_all (is_member members) (range_with_len from count) ≡ false
not_all_in members from zero rank above under out = absurd (omega arith)
not_all_in members from (suc count) rank above under out =
    by_place (cases_lt from rank) (λ past. not_all_in members (from + 1) count rank (omega arith) (omega arith) out)
  where
    both : (a b : Bool) → b ≡ false → (a && b) ≡ false
    both true b is = is
    both false b is = refl

    first : (a b : Bool) → a ≡ false → (a && b) ≡ false
    first true b is = absurd (true≢false is)
    first false b is = refl

    by_place : (from < rank) ⊎ (rank ≤ from) → (from < rank → list_all (is_member members) (range_with_len (from + 1) count) ≡ false)
        → (is_member members from && list_all (is_member members) (range_with_len (from + 1) count)) ≡ false
    by_place (inl past) rest = both (is_member members from) _ (rest past)
    by_place (inr at) rest =
        let same : rank ≡ from = omega arith in
        first (is_member members from) _ (subst (λ r. is_member members r ≡ false) same out)

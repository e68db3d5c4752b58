-- One bit of a mask after an operation on masks.
use Rattle.std.proofs.Common.{◌≡◌, ◌≢◌, ℕ, ◌+◌, ◌-◌, ◌*◌, ◌%◌, ◌^◌, ◌<◌, ◌≤◌, Bool, true, false, not, ◌&&◌, ◌||◌, ◌⊎◌, inl, inr, min, refl, sym, ◌∙◌, ap, arith, subst, eq-eqb}
use Rattle.std.proofs.lemmas.Bool.{false≢true}
use Rattle.std.specs.Prelude.{◌==◌, nat_lt, bit_and, bit_or, bit_xor}
use Rattle.std.specs.Int.{bit_at, w32, bit_not, trailing_zeros}
use Rattle.std.proofs.lemmas.Nat.Bits.{bit_at_and, bit_at_xor, bit_at_not, bit_at_set_same, bit_at_set_other, bit_at-zero, bit_at-trailing_zeros, bit_at_above}
use Rattle.std.proofs.lemmas.Bool.Decides.{nat_tests, Decides-eqb}
use Rattle.qn_base.specs.lemmas.Masks.{bit_cases}

both_bits : (x y : ℕ) → (x ≡ 0) ⊎ (x ≡ 1) → (y ≡ 0) ⊎ (y ≡ 1) → (min x y == 1) ≡ (x == 1 && y == 1)
both_bits x y (inl p) (inl q) = rw (p, q)
both_bits x y (inl p) (inr q) = rw (p, q)
both_bits x y (inr p) (inl q) = rw (p, q)
both_bits x y (inr p) (inr q) = rw (p, q)

without_bits : (x y : ℕ) → (x ≡ 0) ⊎ (x ≡ 1) → (y ≡ 0) ⊎ (y ≡ 1) → ((x + min x y) % 2 == 1) ≡ (x == 1 && not (y == 1))
without_bits x y (inl p) (inl q) = rw (p, q)
without_bits x y (inl p) (inr q) = rw (p, q)
without_bits x y (inr p) (inl q) = rw (p, q)
without_bits x y (inr p) (inr q) = rw (p, q)

outside_bit : (x : ℕ) → (x ≡ 0) ⊎ (x ≡ 1) → (1 - x == 1) ≡ not (x == 1)
outside_bit x (inl p) = rw p
outside_bit x (inr p) = rw p

-- the bits of both
pub bit_both : (a b i : ℕ) → (bit_at (bit_and a b) i == 1) ≡ (bit_at a i == 1 && bit_at b i == 1)
bit_both a b i = ap (λ bit. bit == 1) (bit_at_and a b i) ∙ both_bits (bit_at a i) (bit_at b i) (bit_cases a i) (bit_cases b i)

-- the bits of the first that the second has not
pub bit_without : (a b i : ℕ) → (bit_at (bit_xor a (bit_and a b)) i == 1) ≡ (bit_at a i == 1 && not (bit_at b i == 1))
bit_without a b i =
    ap (λ bit. bit == 1) (bit_at_xor a (bit_and a b) i)
    ∙ (ap (λ bit. (bit_at a i + bit) % 2 == 1) (bit_at_and a b i) ∙ without_bits (bit_at a i) (bit_at b i) (bit_cases a i) (bit_cases b i))

-- the bits that a number has not
pub bit_outside : (a i : ℕ) → a < 2 ^ 32 → i < 32 → (bit_at (bit_not w32 a) i == 1) ≡ not (bit_at a i == 1)
bit_outside a i fits below = ap (λ bit. bit == 1) (bit_at_not w32 a i fits below) ∙ outside_bit (bit_at a i) (bit_cases a i)

set_bit : (a k i : ℕ) → k < 32 → (b : Bool) → (k == i) ≡ b → (bit_at (bit_or a (1 * 2 ^ k % 2 ^ 32)) i == 1) ≡ (b || bit_at a i == 1)
set_bit a k i below true is =
    let same : k ≡ i = (Decides-eqb k i).0 is in
    subst (λ j. (bit_at (bit_or a (1 * 2 ^ k % 2 ^ 32)) j == 1) ≡ true) same (ap (λ bit. bit == 1) (bit_at_set_same w32 a k below))
set_bit a k i below false is =
    let other : i ≢ k = λ e. false≢true (sym is ∙ eq-eqb k i (sym e)) in
    ap (λ bit. bit == 1) (bit_at_set_other w32 a k below i other)

-- the bits with one more
pub bit_with : (a k i : ℕ) → k < 32 → (bit_at (bit_or a (1 * 2 ^ k % 2 ^ 32)) i == 1) ≡ (k == i || bit_at a i == 1)
bit_with a k i below = set_bit a k i below (k == i) refl

-- no rank below the least 1 is a member
pub none_below : (a : ℕ) → 0 < a → a < 2 ^ 32 → (i : ℕ) → i < trailing_zeros w32 a → (bit_at a i == 1) ≡ false
none_below a some fits i below = ap (λ bit. bit == 1) ((bit_at-trailing_zeros w32 a some fits).2 i below)

-- 0 has no member
pub no_bit : (a i : ℕ) → a ≤ 0 → (bit_at a i == 1) ≡ false
no_bit a i none = let zero_mask : a ≡ 0 = omega arith in ap (λ mask. bit_at mask i == 1) zero_mask ∙ ap (λ bit. bit == 1) (bit_at-zero i)

-- a rank past the mask's bits is no member
pub beyond_bits : (a i : ℕ) → a < 2 ^ 32 → 32 ≤ i → nat_lt i 32 ≡ (bit_at a i == 1)
beyond_bits a i fits beyond =
    let past : nat_lt i 32 ≡ false = grind (arith, nat_tests) in
    past ∙ sym (ap (λ bit. bit == 1) (bit_at_above a 32 i fits beyond))

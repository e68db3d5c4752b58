-- Numbers that a test compares or picks.
use Rattle.std.proofs.Common.{◌≡◌, ◌≤◌, ◌⊎◌, ℕ, suc, Bool, true, false, ◌==◌, if◌then◌else◌, inl, inr, refl, arith, eq-eqb}
use Rattle.std.proofs.lemmas.Bool.{eqb-true}

pub equal_to_itself : (n : ℕ) → (n == n) ≡ true
equal_to_itself n = eq-eqb n n refl

-- two numbers are the same or not
pub same_or_not : (m n : ℕ) → (m ≡ n) ⊎ ((m == n) ≡ false)
same_or_not m n = by_test (m == n) refl
  where
    by_test : (b : Bool) → (m == n) ≡ b → (m ≡ n) ⊎ ((m == n) ≡ false)
    by_test true same = inl (eqb-true m n same)
    by_test false apart = inr apart

pub one_is_not_zero : ¬ (◌≡◌ {A = ℕ} 1 0)
one_is_not_zero same = absurd (omega arith)

-- the number that a test picks has the bound of both
pub either_within : (b : Bool) (first second bound : ℕ) → first ≤ bound → second ≤ bound
    → (if b then first else second) ≤ bound
either_within true first second bound below other = below
either_within false first second bound below other = other

-- a count of some of the items is no more than their number
pub count_within : (b : Bool) (count length : ℕ) → count ≤ length → (if b then suc count else count) ≤ suc length
count_within true count length few = omega arith
count_within false count length few = omega arith

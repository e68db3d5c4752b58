-- The bits of a mask.
use Rattle.std.proofs.Common.{◌≡◌, ◌⊎◌, ℕ, false, ap, arith, ◌==◌}
use Rattle.std.specs.Int.{bit_at}
use Rattle.std.proofs.lemmas.Bool.Decides.{nat_tests}
use Rattle.std.proofs.lemmas.Nat.Bits.{bit_at-lt, bit_at-zero}
use Rattle.qn_base.specs.Members.{is_member}

-- a bit is 0 or 1
pub bit_cases : (n i : ℕ) → (bit_at n i ≡ 0) ⊎ (bit_at n i ≡ 1)
bit_cases n i =
    let below = bit_at-lt n i in
    let z : (bit_at n i ≡ 0) ⊎ (bit_at n i ≡ 1) = grind (arith, nat_tests) in z

-- the empty mask has no member
pub empty_has_none : (rank : ℕ) → is_member (record { 0 = 0 }) rank ≡ false
empty_has_none rank = ap (λ bit. bit == 1) (bit_at-zero rank)

-- Products of numbers of which one is larger.
use Rattle.std.proofs.Common.{ℕ, suc, ◌+◌, ◌*◌, ◌≤◌, ◌<◌, arith, mul-le-mul_left, mul-suc}

-- what is left of a product
pub same_or_less : (d m n : ℕ) → m ≤ n → d * m ≤ d * n
same_or_less d m n below = mul-le-mul_left d below

pub one_less : (d m n : ℕ) → m < n → d * m + d ≤ d * n
one_less d m n below = let step = same_or_less d (suc m) n (omega arith) in let e = mul-suc d m in omega arith

pub at_least_one : (d n : ℕ) → 1 ≤ n → d ≤ d * n
at_least_one d n some = let step = one_less d 0 n (omega arith) in omega arith

-- Tests over a range of numbers.
use Rattle.std.proofs.Common.{◌≡◌, ◌≤◌, ◌<◌, ◌+◌, ◌-◌, ◌⊎◌, ℕ, zero, suc, Bool, true, false, List, ◌∷◌, filter, inl, inr, refl, sym, ap, ◌∙◌, subst, arith}
use Rattle.std.specs.Prelude.{◌&&◌}
use Rattle.std.specs.List.{list_all, range_with_len}
use Rattle.std.proofs.lemmas.Bool.{cases_order}
use Rattle.qn_base.specs.lemmas.Bools.{first_of_both, second_of_both}

-- a range that is not over begins with its first number
pub range_begins : (first bound : ℕ) → first < bound
    → range_with_len first (bound - first) ≡ first ∷ range_with_len (first + 1) (bound - (first + 1))
range_begins first bound below =
    let one_more : bound - first ≡ suc (bound - (first + 1)) = omega arith in
    ap (λ n. range_with_len first n) one_more

-- a test that holds at the first number, and one that fails there
pub all_after_first : (p : ℕ → Bool) (first bound : ℕ) (all : Bool) → first < bound → p first ≡ true
    → list_all p (range_with_len first (bound - first)) ≡ all
    → list_all p (range_with_len (first + 1) (bound - (first + 1))) ≡ all
all_after_first p first bound all below passes was =
    sym (ap (list_all p) (range_begins first bound below) ∙ ap (λ b. b && list_all p (range_with_len (first + 1) (bound - (first + 1)))) passes)
    ∙ was

pub all_fails_at_first : (p : ℕ → Bool) (first bound : ℕ) (all : Bool) → first < bound → p first ≡ false
    → list_all p (range_with_len first (bound - first)) ≡ all → all ≡ false
all_fails_at_first p first bound all below fails was =
    sym was
    ∙ (ap (list_all p) (range_begins first bound below) ∙ ap (λ b. b && list_all p (range_with_len (first + 1) (bound - (first + 1)))) fails)

-- a test that holds over a range holds at each number in it
pub each_in_range : (test : ℕ → Bool) (count from k : ℕ) → list_all test (range_with_len from count) ≡ true → from ≤ k
    → k < from + count → test k ≡ true
each_in_range test zero from k all above below = absurd (omega arith)
each_in_range test (suc count) from k all above below =
    let rest = list_all test (range_with_len (from + 1) count) in
    at_or_behind (cases_order from k) (first_of_both (test from) rest all)
    (λ past. each_in_range test count (from + 1) k (second_of_both (test from) rest all) (omega arith) (omega arith))
  where
    at_or_behind : (from ≡ k) ⊎ ((from < k) ⊎ (k < from)) → test from ≡ true → (from < k → test k ≡ true)
        → test k ≡ true
    at_or_behind (inl same) here later = subst (λ n. test n ≡ true) same here
    at_or_behind (inr (inl past)) here later = later past
    at_or_behind (inr (inr behind)) here later = absurd (omega arith)

-- tests that agree on a range keep the same of its numbers
pub filter_same : (first second : ℕ → Bool) (from count : ℕ)
    → ((k : ℕ) → from ≤ k → k < from + count → first k ≡ second k)
    → filter first (range_with_len from count) ≡ filter second (range_with_len from count)
filter_same first second from zero same = refl
filter_same first second from (suc count) same =
    let here : first from ≡ second from = same from (omega arith) (omega arith) in
    let rest = filter_same first second (from + 1) count (λ k above below. same k (omega arith) (omega arith)) in
    rw (here, rest)

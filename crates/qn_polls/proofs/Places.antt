-- Places of a list, and tests over the ranks.
use Rattle.std.proofs.Common.{◌≡◌, ◌<◌, ◌+◌, ◌-◌, ℕ, zero, suc, Bool, true, false, refl, sym, ap, ◌∙◌, arith}
use Rattle.std.specs.Prelude.{◌&&◌, ◌||◌}
use Rattle.std.specs.List.{list_all, list_any, range_with_len}
use Rattle.qn_base.specs.lemmas.Ranges.{range_begins}

-- two tests that agree on the ranks of a range
pub list_all_same : (p q : ℕ → Bool) (first count : ℕ) → ((rank : ℕ) → rank < first + count → p rank ≡ q rank)
    → list_all p (range_with_len first count) ≡ list_all q (range_with_len first count)
list_all_same p q first zero same = refl
list_all_same p q first (suc count) same =
    let rest = list_all_same p q (first + 1) count (λ rank below. same rank (omega arith)) in
    ap (λ b. b && list_all p (range_with_len (first + 1) count)) (same first (omega arith)) ∙ ap (λ b. q first && b) rest

pub none_so_far : (p : ℕ → Bool) (rank count : ℕ) (any : Bool) → rank < count → p rank ≡ false
    → list_any p (range_with_len rank (count - rank)) ≡ any → list_any p (range_with_len (rank + 1) (count - (rank + 1))) ≡ any
none_so_far p rank count any below fails was =
    sym (ap (list_any p) (range_begins rank count below) ∙ ap (λ b. b || list_any p (range_with_len (rank + 1) (count - (rank + 1)))) fails) ∙ was

pub one_passes : (p : ℕ → Bool) (rank count : ℕ) (any : Bool) → rank < count → p rank ≡ true
    → list_any p (range_with_len rank (count - rank)) ≡ any → any ≡ true
one_passes p rank count any below passes was =
    sym was ∙ (ap (list_any p) (range_begins rank count below) ∙ ap (λ b. b || list_any p (range_with_len (rank + 1) (count - (rank + 1)))) passes)

-- the end of a loop over the ranks
pub all_at_end : (p : ℕ → Bool) (rank : ℕ) (all : Bool) → rank ≡ 32 → list_all p (range_with_len rank (32 - rank)) ≡ all → all ≡ true
all_at_end p rank all e was = sym was ∙ ap (λ r. list_all p (range_with_len r (32 - r))) e

pub none_at_end : (p : ℕ → Bool) (rank : ℕ) (any : Bool) → rank ≡ 32 → list_any p (range_with_len rank (32 - rank)) ≡ any → any ≡ false
none_at_end p rank any e was = sym was ∙ ap (λ r. list_any p (range_with_len r (32 - r))) e

use Rattle.std.proofs.Common.{◌≡◌, ℕ, ◌+◌, ◌-◌, ◌<◌, ap, ◌&&◌, Bool, true, false, sym, ◌∙◌}
use Rattle.std.specs.List.{list_all, range_with_len}
use Rattle.qn_base.specs.declared.ids.Mask.{Mask}
use Rattle.qn_base.specs.Members.{is_member}
use Rattle.qn_base.specs.lemmas.Ranges.{range_begins}

-- a test of the ranks from one on, that rank passed or refused
list_all-range_with_len : (members : Mask) (rank count : ℕ) → rank < count
    → list_all (is_member members) (range_with_len rank (count - rank))
    ≡ (is_member members rank && list_all (is_member members) (range_with_len (rank + 1) (count - (rank + 1))))
list_all-range_with_len members rank count below = ap (list_all (is_member members)) (range_begins rank count below)

pub all_in-member : (members : Mask) (rank count : ℕ) (all : Bool) → rank < count → is_member members rank ≡ true
    → list_all (is_member members) (range_with_len rank (count - rank)) ≡ all
    → list_all (is_member members) (range_with_len (rank + 1) (count - (rank + 1))) ≡ all
all_in-member members rank count all below member was =
    let split = list_all-range_with_len members rank count below in
    sym (split ∙ ap (λ b. b && list_all (is_member members) (range_with_len (rank + 1) (count - (rank + 1)))) member) ∙ was

pub all_in-outsider : (members : Mask) (rank count : ℕ) (all : Bool) → rank < count → is_member members rank ≡ false
    → list_all (is_member members) (range_with_len rank (count - rank)) ≡ all
    → all ≡ false
all_in-outsider members rank count all below outside was =
    let split = list_all-range_with_len members rank count below in
    sym was ∙ (split ∙ ap (λ b. b && list_all (is_member members) (range_with_len (rank + 1) (count - (rank + 1)))) outside)

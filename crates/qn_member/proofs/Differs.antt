-- Lists with new items at the first ranks.
use Rattle.std.proofs.Common.{◌≡◌, ◌≢◌, ℕ, suc, zero, ◌+◌, ◌<◌, ◌≤◌, List, length, get_or, set, add-one, refl, ◌∙◌, arith, ◌⊎◌, inl, inr, subst}
use Rattle.std.specs.Prelude.{Option, None, slice_set}
use Rattle.std.proofs.lemmas.Bool.{cases_lt}
use Rattle.std.proofs.lemmas.List.{get_or-set_same, get_or-set_other, length-set}
use Rattle.qn_member.specs.Maker.{of_rank, with_ranks}

-- one item more
pub one_rank_more : {A : Type 0} (item : ℕ → Option A) (rank : ℕ) (items before : List (Option A)) (at : ℕ) (new : Option A)
    → before ≡ with_ranks item rank items → at ≡ rank → new ≡ item rank
    → slice_set before at new ≡ with_ranks item (rank + 1) items
unfolding with_ranks
one_rank_more item rank items before at new known here is = rw add-one (cc)

-- there are as many items
pub length-with_ranks : {A : Type 0} (item : ℕ → Option A) (count : ℕ) (items : List (Option A)) → length (with_ranks item count items) ≡ length items
unfolding with_ranks
length-with_ranks item zero items = refl
length-with_ranks item (suc count) items = length-set (with_ranks item count items) count (item count) ∙ length-with_ranks item count items

-- the item of a rank below the number is the new one
pub item_of_rank : {A : Type 0} (item : ℕ → Option A) (count : ℕ) (items : List (Option A)) (rank : ℕ) → count ≤ length items → rank < count
    → of_rank (with_ranks item count items) rank ≡ item rank
unfolding with_ranks
item_of_rank item zero items rank room below = absurd (omega arith)
item_of_rank item (suc count) items rank room below = by_order (cases_lt rank count) (λ under. item_of_rank item count items rank (omega arith) under)
  where
    by_order : (rank < count) ⊎ (count ≤ rank) → (rank < count → get_or (with_ranks item count items) rank None ≡ item rank)
        → get_or (set (with_ranks item count items) count (item count)) rank None ≡ item rank
    by_order (inl under) rest =
        let other : rank ≢ count = omega arith in
        get_or-set_other (with_ranks item count items) count rank (item count) None other ∙ rest under
    by_order (inr past) rest =
        let same : count ≡ rank = omega arith in
        let wide = length-with_ranks item count items in
        subst (λ r. get_or (set (with_ranks item count items) count (item count)) r None ≡ item r) same
        (get_or-set_same (with_ranks item count items) count (item count) None (omega arith))

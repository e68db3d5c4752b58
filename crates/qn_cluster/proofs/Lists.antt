-- Lists whose items are replaced, and leftovers.
use Rattle.std.proofs.Common.{◌≡◌, ℕ, suc, zero, ◌<◌, false, List, [], ◌∷◌, length, Some, refl, ◌⊎◌, inl, inr, sym, ◌∙◌, subst, arith}
use Rattle.std.specs.Prelude.{All, slice_get, slice_set, ◌==◌}
use Rattle.std.proofs.lemmas.List.Elements.{All-get_or}
use Rattle.std.proofs.lemmas.Option.{get_or_from_slice_get, slice_get_within}
use Rattle.qn_base.specs.lemmas.Lists.{get_set_same, get_set_other}
use Rattle.qn_base.specs.lemmas.Numbers.{same_or_not}

-- the item that a list has at a place after one of its items was replaced
pub found : {A : Type 0} (items : List A) (i j : ℕ) (item seen : A) → i < length items → slice_get (slice_set items i item) j ≡ Some seen
    → ((i ≡ j) × (seen ≡ item)) ⊎ (((i == j) ≡ false) × (slice_get items j ≡ Some seen))
found items i j item seen within e = found_by (same_or_not i j)
  where
    found_by : (i ≡ j) ⊎ ((i == j) ≡ false) → ((i ≡ j) × (seen ≡ item)) ⊎ (((i == j) ≡ false) × (slice_get items j ≡ Some seen))
    found_by (inl same) = inl (same, (let q : Some seen ≡ Some item = sym (subst (λ k. slice_get (slice_set items i item) k ≡ Some seen) (sym same) e) ∙ get_set_same items i item within in cc))
    found_by (inr apart) = inr (apart, sym (get_set_other items i j item apart) ∙ e)

-- a list has an item at each place below its length
pub item_there : {A : Type 0} (items : List A) (i : ℕ) → i < length items → (item : A) × (slice_get items i ≡ Some item)
item_there [] i within = absurd (omega arith)
item_there (first ∷ items) zero within = (first, refl)
item_there (first ∷ items) (suc i) within = item_there items i (omega arith)

-- what holds of each item holds of the one at a place
pub all_at : {A : Type 0} (P : A → Type 0) (items : List A) (i : ℕ) (item : A) → All P items → slice_get items i ≡ Some item → P item
all_at P items i item all here = subst P (get_or_from_slice_get items i item item here) (All-get_or P items i item (slice_get_within items i item here) all)

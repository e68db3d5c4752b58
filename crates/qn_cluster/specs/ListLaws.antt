-- Laws of lists whose items are replaced, and of the three images, for this crate and those above.
use Rattle.std.proofs.Common.{◌≡◌, ℕ, suc, zero, ◌<◌, true, false, List, length, Some, ◌⊎◌, inl, inr, sym, ◌∙◌, ap, subst, arith, if◌then◌else◌}
use Rattle.std.specs.Prelude.{slice_get, slice_set, ◌==◌}
use Rattle.std.proofs.lemmas.Bool.Decides.{nat_tests}
use Rattle.qn_base.specs.lemmas.Lists.{get_set_same, get_set_other}
use Rattle.qn_base.specs.lemmas.Numbers.{equal_to_itself, same_or_not}
use Rattle.qn_model.specs.World.{put}
use Rattle.qn_safety.specs.TripleRules.{is_image}

-- a value of a rank that is replaced
pub rank_put : {A : Type 0} (items : List A) (values : ℕ → A) (i : ℕ) (value : A) → i < length items
    → ((j : ℕ) → j < 32 → slice_get items j ≡ Some (values j))
    → (j : ℕ) → j < 32 → slice_get (slice_set items i value) j ≡ Some (put values i value j)
rank_put items values i value within before j below = put_by (same_or_not i j)
  where
    put_by : (i ≡ j) ⊎ ((i == j) ≡ false) → slice_get (slice_set items i value) j ≡ Some (put values i value j)
    put_by (inl same) =
        subst (λ k. slice_get (slice_set items i value) k ≡ Some (put values i value k)) same
        (get_set_same items i value within ∙ ap (λ b. Some (if b then value else values i)) (sym (equal_to_itself i)))
    put_by (inr apart) = get_set_other items i j value apart ∙ (before j below ∙ ap (λ b. Some (if b then value else values j)) (sym apart))

-- what holds of the images 1, 2 and 3 holds of each
pub by_image : (P : ℕ → Type 0) → P 1 → P 2 → P 3 → (image : ℕ) → is_image image ≡ true → P image
by_image P one two three zero e = absurd (cc)
by_image P one two three (suc zero) e = one
by_image P one two three (suc (suc zero)) e = two
by_image P one two three (suc (suc (suc zero))) e = three
by_image P one two three (suc (suc (suc (suc image)))) e = absurd (grind (arith, nat_tests))

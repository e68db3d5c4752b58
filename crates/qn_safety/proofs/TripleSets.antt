-- Two of three images, functions that are changed at one place, and members of lists.
use Rattle.std.proofs.Common.{◌≡◌, ℕ, suc, zero, Bool, true, false, List, [], ◌∷◌, ◌++◌, Some, refl, subst, ◌==◌, if◌then◌else◌, ◌⊎◌, inl, inr}
use Rattle.std.proofs.lemmas.Bool.{eqb-true}
use Rattle.qn_base.specs.lemmas.Options.{none_is_not_some}
use Rattle.qn_base.specs.lemmas.Elements.{IsIn, First, Behind, get_in, none_in}
use Rattle.qn_model.specs.World.{put, numbered, without}

-- a property of two of the three images
pub data TwoOf (P : ℕ → Type 0) : Type 0 where
  OneTwo : P 1 → P 2 → TwoOf P
  OneThree : P 1 → P 3 → TwoOf P
  TwoThree : P 2 → P 3 → TwoOf P

-- two of three meet two of three
pub meet : {P Q : ℕ → Type 0} → TwoOf P → TwoOf Q → (k : ℕ) × P k × Q k
meet (OneTwo a b) (OneTwo c d) = (1, a, c)
meet (OneTwo a b) (OneThree c d) = (1, a, c)
meet (OneTwo a b) (TwoThree c d) = (2, b, c)
meet (OneThree a b) (OneTwo c d) = (1, a, c)
meet (OneThree a b) (OneThree c d) = (1, a, c)
meet (OneThree a b) (TwoThree c d) = (3, b, d)
meet (TwoThree a b) (OneTwo c d) = (2, a, d)
meet (TwoThree a b) (OneThree c d) = (3, b, d)
meet (TwoThree a b) (TwoThree c d) = (2, a, c)

pub map_two : {P Q : ℕ → Type 0} → ((k : ℕ) → P k → Q k) → TwoOf P → TwoOf Q
map_two f (OneTwo a b) = OneTwo (f 1 a) (f 2 b)
map_two f (OneThree a b) = OneThree (f 1 a) (f 3 b)
map_two f (TwoThree a b) = TwoThree (f 2 a) (f 3 b)

-- a property of a function that was changed at one place
pub put_case : {A : Type 0} (P : A → Type 0) (f : ℕ → A) (k i : ℕ) (value : A) → (k ≡ i → P value) → P (f i) → P (put f k value i)
put_case P f k i value here there = by_owner (k == i) refl
  where
    by_owner : (b : Bool) → (k == i) ≡ b → P (if b then value else f i)
    by_owner true e = here (eqb-true k i e)
    by_owner false e = there

pub first_or : {A : Type 0} {x y : A} {ys : List A} → IsIn x (y ∷ ys) → (x ≡ y) ⊎ IsIn x ys
first_or First = inl refl
first_or (Behind y more) = inr more

pub numbered_in : {A : Type 0} (xs : List A) (number : ℕ) (x : A) → numbered xs number ≡ Some x → IsIn x xs
numbered_in xs zero x e = none_is_not_some x e
numbered_in xs (suc place) x e = get_in xs place x e

pub without_in : {A : Type 0} {x : A} (xs : List A) (number : ℕ) → IsIn x (without xs number) → IsIn x xs
without_in [] number there = there
without_in (y ∷ ys) zero there = there
without_in (y ∷ ys) (suc zero) there = Behind y there
without_in {x = x} (y ∷ ys) (suc (suc place)) there = either (first_or there) (λ more. without_in ys (suc place) more)
  where
    either : (x ≡ y) ⊎ IsIn x (without ys (suc place)) → (IsIn x (without ys (suc place)) → IsIn x ys) → IsIn x (y ∷ ys)
    either (inl same) rest = subst (λ z. IsIn x (z ∷ ys)) same First
    either (inr more) rest = Behind y (rest more)

-- a member of a list that others were put behind
pub in_either : {A : Type 0} {x : A} (xs ys : List A) → IsIn x (xs ++ ys) → IsIn x xs ⊎ IsIn x ys
in_either [] ys there = inr there
in_either {x = x} (y ∷ xs) ys there = either (first_or there) (λ more. in_either xs ys more)
  where
    more_in : IsIn x xs ⊎ IsIn x ys → IsIn x (y ∷ xs) ⊎ IsIn x ys
    more_in (inl it) = inl (Behind y it)
    more_in (inr it) = inr it

    either : (x ≡ y) ⊎ IsIn x (xs ++ ys) → (IsIn x (xs ++ ys) → IsIn x xs ⊎ IsIn x ys) → IsIn x (y ∷ xs) ⊎ IsIn x ys
    either (inl same) rest = inl (subst (λ z. IsIn x (z ∷ xs)) same First)
    either (inr more) rest = more_in (rest more)

pub only_in : {A : Type 0} {x y : A} → IsIn x (y ∷ []) → x ≡ y
only_in {x = x} {y = y} there = either (first_or there)
  where
    either : (x ≡ y) ⊎ IsIn x [] → x ≡ y
    either (inl same) = same
    either (inr none) = none_in none

pub in_left : {A : Type 0} {x : A} (xs ys : List A) → IsIn x xs → IsIn x (xs ++ ys)
in_left [] ys there = none_in there
in_left {x = x} (y ∷ xs) ys there = either (first_or there) (λ more. in_left xs ys more)
  where
    either : (x ≡ y) ⊎ IsIn x xs → (IsIn x xs → IsIn x (xs ++ ys)) → IsIn x (y ∷ (xs ++ ys))
    either (inl same) rest = subst (λ z. IsIn x (z ∷ (xs ++ ys))) same First
    either (inr more) rest = Behind y (rest more)

pub in_right : {A : Type 0} {x : A} (xs ys : List A) → IsIn x ys → IsIn x (xs ++ ys)
in_right [] ys there = there
in_right (y ∷ xs) ys there = Behind y (in_right xs ys there)

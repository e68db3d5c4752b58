-- Lists: an item that is read, an item that is replaced, and lists that are joined.
use Rattle.std.proofs.Common.{◌≡◌, ◌≢◌, ◌<◌, ℕ, suc, zero, Bool, true, false, List, [], ◌∷◌, ◌++◌, length, get_or, Some, refl, ap, ◌∙◌, ◌==◌, arith, length-append}
use Rattle.std.specs.Prelude.{slice_get, slice_set, nat_lt, replicate}
use Rattle.std.proofs.lemmas.Bool.{eqb-false, lt-ltb}
use Rattle.std.proofs.lemmas.Option.{get_or_from_slice_get}

pub get_set_same : {A : Type 0} (items : List A) (i : ℕ) (item : A) → i < length items
    → slice_get (slice_set items i item) i ≡ Some item
get_set_same [] i item within = absurd (omega arith)
get_set_same (first ∷ items) zero item within = refl
get_set_same (first ∷ items) (suc i) item within = get_set_same items i item (omega arith)

pub get_set_apart : {A : Type 0} (items : List A) (i j : ℕ) (item : A) → i ≢ j
    → slice_get (slice_set items i item) j ≡ slice_get items j
get_set_apart [] i j item apart = refl
get_set_apart (first ∷ items) zero zero item apart = absurd (apart refl)
get_set_apart (first ∷ items) zero (suc j) item apart = refl
get_set_apart (first ∷ items) (suc i) zero item apart = refl
get_set_apart (first ∷ items) (suc i) (suc j) item apart = get_set_apart items i j item (λ e. apart (ap suc e))

pub get_set_other : {A : Type 0} (items : List A) (i j : ℕ) (item : A) → (i == j) ≡ false
    → slice_get (slice_set items i item) j ≡ slice_get items j
get_set_other items i j item other = get_set_apart items i j item (eqb-false i j other)

-- the item at a place is the one that is read there
pub read_at : {A : Type 0} (items others : List A) (place i : ℕ) (item d : A) → items ≡ others → place ≡ i
    → slice_get others i ≡ Some item → get_or items place d ≡ item
read_at items others place i item d same at here =
    get_or_from_slice_get items place item d (ap (λ items. slice_get items place) same ∙ (ap (λ place. slice_get others place) at ∙ here))

pub longer_joined : {A : Type 0} (front back : List A) → back ≢ []
    → nat_lt (length front) (length (front ++ back)) ≡ true
longer_joined front [] some = absurd (some refl)
longer_joined front (x ∷ back) some = let e = length-append front (x ∷ back) in lt-ltb _ _ (omega (arith, e))

-- each of so many equal items
pub replicated : {A : Type 0} (count i : ℕ) (item : A) → i < count → slice_get (replicate count item) i ≡ Some item
replicated zero i item below = absurd (omega arith)
replicated (suc count) zero item below = refl
replicated (suc count) (suc i) item below = replicated count i item (omega arith)

-- a list is longer than what is behind its first item
pub too_long : {A : Type 0} {P : Type 0} (x : A) (xs : List A) → x ∷ xs ≡ xs → P
too_long x xs e = absurd (let q : suc (length xs) ≡ length xs = ap length e in omega arith)

-- Small facts on options, tests and lists.
use Rattle.std.proofs.Common.{◌≡◌, ℕ, suc, zero, ◌+◌, Bool, true, false, List, [], ◌∷◌, ◌++◌, Some, None, Option, refl, sym, ◌||◌, not, ◌⊎◌, inl, inr}
use Rattle.std.specs.Prelude.{slice_get}
use Rattle.std.specs.Option.{option_or, option_to_list}
use Rattle.std.specs.List.{list_all, list_any}
use Rattle.std.proofs.lemmas.Bool.{false≢true, true≢false}
use Rattle.qn_base.specs.lemmas.Options.{none_is_not_some}
use Rattle.qn_base.specs.lemmas.Bools.{first_of_both, second_of_both}
use Rattle.qn_model.specs.Moments.{Before, Itself, Later}
use Rattle.qn_model.specs.Rules.{unless}
pub use Rattle.qn_safety.specs.Earlier.{before_length, before_tail, before_then, before_total}

-- of two tests of which one holds, the one that fails is not it
pub or_right_of : (a b : Bool) → (a || b) ≡ true → a ≡ false → b ≡ true
or_right_of true b e fails = absurd (true≢false fails)
or_right_of false b e fails = e

-- of two rules none refuses
pub first_allows : (test : Bool) (rule : ℕ) (other : Option ℕ) → option_or (unless test rule) other ≡ None → (test ≡ true) × (other ≡ None)
first_allows true rule other ok = (refl, ok)
first_allows false rule other ok = none_is_not_some rule (sym ok)

-- an earlier state of a list with one item more is that list, or an earlier state of the rest
pub newest_state : {A : Type 0} {old rest : List A} {newest : A} → Before old (newest ∷ rest) → (old ≡ newest ∷ rest) ⊎ Before old rest
newest_state Itself = inl refl
newest_state (Later newest more) = inr more

-- an item of a list with one item more at its end is of the list, or that item
pub added_item : {A : Type 0} (items : List A) (more : Option A) (place : ℕ) (x : A) → slice_get (items ++ option_to_list more) place ≡ Some x
    → (slice_get items place ≡ Some x) ⊎ (more ≡ Some x)
added_item [] None place x e = none_is_not_some x e
added_item [] (Some y) zero x e = inr e
added_item [] (Some y) (suc place) x e = none_is_not_some x e
added_item (item ∷ items) more zero x e = inl e
added_item (item ∷ items) more (suc place) x e = added_item items more place x e

-- a test that holds somewhere in a list holds of some item
pub some_item : {A : Type 0} (test : A → Bool) (items : List A) → list_any test items ≡ true → (x : A) × (test x ≡ true)
some_item test [] e = absurd (false≢true e)
some_item {A = A} test (item ∷ items) e = by_test (test item) refl e (λ more. some_item test items more)
  where
    by_test : (b : Bool) → test item ≡ b → (b || list_any test items) ≡ true → (list_any test items ≡ true → (x : A) × (test x ≡ true)) → (x : A) × (test x ≡ true)
    by_test true holds any rest = (item, holds)
    by_test false fails any rest = rest any

-- a test that holds of all items holds of each
pub each_item : {A : Type 0} (test : A → Bool) {x : A} {rest items : List A} → Before (x ∷ rest) items → list_all test items ≡ true → test x ≡ true
each_item test {x = x} {rest = rest} Itself all = first_of_both (test x) (list_all test rest) all
each_item test (Later newest {new = others} more) all = each_item test more (second_of_both (test newest) (list_all test others) all)

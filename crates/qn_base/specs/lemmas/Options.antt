-- Options: what is there, and what is not.
use Rattle.std.proofs.Common.{◌≡◌, ◌≤◌, ℕ, Bool, true, false, Option, Some, None, if◌then◌else◌, is_none, is_some, refl, sym, arith}
use Rattle.std.specs.Option.{option_map_or, IfNone}
use Rattle.std.proofs.lemmas.Bool.{false≢true}
use Rattle.std.proofs.lemmas.Option.{none-some, same_Some}

pub none_is_not_some : {A : Type 0} {P : Type 0} (a : A) → None ≡ Some a → P
none_is_not_some a same = absurd (none-some a same)

pub some_is_not_none : {A : Type 0} {P : Type 0} (a : A) → Some a ≡ None → P
some_is_not_none a same = absurd (none-some a (sym same))

pub none_if_no_value : {A : Type 0} (o : Option A) → ((a : A) → o ≡ Some a → ⊥) → o ≡ None
none_if_no_value None never = refl
none_if_no_value (Some a) never = absurd (never a refl)

pub none_if_not_there : {A : Type 0} (o : Option A) → is_none o ≡ true → o ≡ None
none_if_not_there None absent = refl
none_if_not_there (Some a) absent = absurd (false≢true absent)

-- what is there has a value
pub value_there : {A : Type 0} (o : Option A) → is_some o ≡ true → (a : A) × (o ≡ Some a)
value_there (Some a) there = (a, refl)
value_there None there = absurd (false≢true there)

-- what passes a test that nothing fails is there, and its value passes
pub value_tested : {A : Type 0} (test : A → Bool) (o : Option A) → option_map_or test o false ≡ true
    → (a : A) × (o ≡ Some a) × (test a ≡ true)
value_tested test (Some a) passed = (a, refl, passed)
value_tested test None passed = absurd (false≢true passed)

-- a number that is the newest one, or an earlier one with the bound
pub found_within : (b : Bool) (newest found : ℕ) (before : Option ℕ) → (before ≡ Some found → found ≤ newest)
    → (if b then Some newest else before) ≡ Some found → found ≤ newest
found_within true newest found before old is = let same : newest ≡ found = same_Some newest found is in omega arith
found_within false newest found before old is = old is

-- a value that is there only where a test holds
pub some_if_true : {A : Type 0} (test : Bool) (value : A) → test ≡ true
    → (if test then Some value else None) ≡ Some value
some_if_true true value holds = refl
some_if_true false value holds = absurd (false≢true holds)

pub true_if_some : {A : Type 0} (test : Bool) (value found : A) → (if test then Some value else None) ≡ Some found
    → (test ≡ true) × (found ≡ value)
true_if_some true value found is = (refl, sym (same_Some value found is))
true_if_some false value found is = none_is_not_some found is

-- what a search promises where it finds nothing
pub if_none : {A : Type 0} (o : Option A) (P : Type 0) → is_some o ≡ false → IfNone o P → P
if_none None P is h = h
if_none (Some a) P is h = absurd (cc)

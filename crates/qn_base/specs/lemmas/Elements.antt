-- An element of a list, by where it stands.
use Rattle.std.proofs.Common.{ℕ, suc, List, ◌∷◌, refl, arith, ◌≡◌, zero, Some, [], subst}
use Rattle.std.specs.List.{Contains}
use Rattle.std.specs.Prelude.{slice_get}
use Rattle.std.proofs.lemmas.Option.{same_Some}
use Rattle.qn_base.specs.lemmas.Options.{none_is_not_some}

pub data IsIn {A : Type 0} (x : A) : List A → Type 0 where
  First : {xs : List A} → IsIn x (x ∷ xs)
  Behind : (y : A) {xs : List A} → IsIn x xs → IsIn x (y ∷ xs)

pub contains : {A : Type 0} {x : A} {xs : List A} → IsIn x xs → Contains xs x
contains First = (0, omega arith, refl)
contains (Behind y there) = let rest = contains there in (suc rest.0, omega (arith, rest.1), rest.2)

pub get_in : {A : Type 0} (xs : List A) (n : ℕ) (x : A) → slice_get xs n ≡ Some x → IsIn x xs
get_in [] n x e = none_is_not_some x e
get_in (y ∷ ys) zero x e = subst (λ z. IsIn z (y ∷ ys)) (same_Some _ _ e) First
get_in (y ∷ ys) (suc n) x e = Behind y (get_in ys n x e)

pub none_in : {A : Type 0} {x : A} {P : Type 0} → IsIn x [] → P
none_in there = elim there [ ]

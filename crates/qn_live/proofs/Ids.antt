-- What holds at a place of a list.
use Rattle.std.proofs.Common.{◌≡◌, ℕ, suc, zero, ◌<◌, List, [], ◌∷◌, length, Some, subst}
use Rattle.std.specs.Prelude.{All, slice_get, slice_index_or}

-- what stands at a place is found there, whatever is to stand for a place past the end
pub found_at : {X : Type 0} (xs : List X) (i : ℕ) (x d : X) → slice_get xs i ≡ Some x → slice_index_or xs i d ≡ x
found_at [] zero x d e = cc
found_at [] (suc i) x d e = cc
found_at (first ∷ xs) zero x d e = cc
found_at (first ∷ xs) (suc i) x d e = found_at xs i x d e

-- what holds of each element holds of the one that stands there
pub holds_at : {X : Type 0} (P : X → Type 0) (xs : List X) (i : ℕ) (x : X) → All P xs → i < length xs → slice_get xs i ≡ Some x → P x
holds_at P xs i x all within e = subst P (found_at xs i x x e) (all i x within)

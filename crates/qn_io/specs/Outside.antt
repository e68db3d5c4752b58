-- What calls of the outside do to a count of faults and to bytes that are told.
pub use Rattle.qn_base.specs.Faults.{HasRisen}
use Rattle.std.specs.Prelude.{◌≡◌, ℕ, List, [], ◌++◌, Option, None, Some}
use Rattle.std.specs.Io.KnownBytes.{prepend_known, append_known, IsAtEnd}
use Rattle.std.proofs.Common.{refl, sym, ap, append_assoc, append-nil, subst, ◌∙◌}

-- no bytes before the known ones leave them as they are
pub prepend_known-nil : (known : Option (List ℕ)) → prepend_known [] known ≡ known
prepend_known-nil None = refl
prepend_known-nil (Some bytes) = refl

-- nothing is left behind bytes that were all handed out
pub left_at_end : (waiting : List ℕ) (left : Option (List ℕ)) → waiting ≡ [] → IsAtEnd (prepend_known waiting left) → IsAtEnd left
left_at_end waiting left none at_end = subst IsAtEnd (ap (λ w. prepend_known w left) none ∙ prepend_known-nil left) at_end

-- bytes, and then others, before the known ones
pub prepend_known-append : (front back : List ℕ) (known : Option (List ℕ)) → prepend_known (front ++ back) known ≡ prepend_known front (prepend_known back known)
prepend_known-append front back None = refl
prepend_known-append front back (Some bytes) = ap Some (append_assoc front back bytes)

-- no bytes after the known ones leave them as they are
pub append_known-nil : (known : Option (List ℕ)) → append_known known [] ≡ known
append_known-nil None = refl
append_known-nil (Some bytes) = ap Some (append-nil bytes)

-- bytes, and then others, after the known ones
pub append_known-append : (known : Option (List ℕ)) (front back : List ℕ) → append_known known (front ++ back) ≡ append_known (append_known known front) back
append_known-append None front back = refl
append_known-append (Some bytes) front back = ap Some (sym (append_assoc bytes front back))

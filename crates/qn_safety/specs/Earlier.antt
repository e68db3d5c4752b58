-- Of two states of a list that only grows, which is the earlier one. Lemmas for the proofs of this crate and of those above.
-- This project's profile.
use Rattle.std.proofs.Common.{◌≡◌, ◌≤◌, List, [], ◌∷◌, ◌++◌, length, refl, sym, subst, arith, ◌⊎◌, inl, inr}
use Rattle.qn_model.specs.Moments.{Before, Itself, Later}

-- a list grows by what is put before it
pub before_length : {A : Type 0} {old new : List A} → Before old new → length old ≤ length new
before_length Itself = omega arith
before_length (Later newest more) = let rest = before_length more in omega arith

pub before_then : {A : Type 0} {a b c : List A} → Before a b → Before b c → Before a c
before_then first Itself = first
before_then first (Later newest more) = Later newest (before_then first more)

-- the state without its newest item is earlier
pub before_tail : {A : Type 0} {x : A} {old new : List A} → Before (x ∷ old) new → Before old new
before_tail {x = x} first = before_then (Later x Itself) first

-- of two earlier states of one list one is earlier than the other
pub before_total : {A : Type 0} {a b c : List A} → Before a c → Before b c → Before a b ⊎ Before b a
before_total Itself second = inr second
before_total (Later newest first) Itself = inl (Later newest first)
before_total (Later newest first) (Later other second) = before_total first second

-- an earlier state of the same length is the same
pub before_same : {A : Type 0} {a b : List A} → Before a b → length b ≤ length a → a ≡ b
before_same Itself long = refl
before_same (Later newest more) long = absurd (let rest = before_length more in omega arith)

-- the earlier one by length
pub before_shorter : {A : Type 0} {a b c : List A} → Before a c → Before b c → length a ≤ length b → Before a b
before_shorter {a = a} Itself second long = subst (λ x. Before a x) (sym (before_same second long)) Itself
before_shorter (Later newest first) Itself long = Later newest first
before_shorter (Later newest first) (Later other second) long = before_shorter first second long

-- what newer items are put before is earlier
pub before_joined : {A : Type 0} (newer older : List A) → Before older (newer ++ older)
before_joined [] older = Itself
before_joined (newest ∷ newer) older = Later newest (before_joined newer older)

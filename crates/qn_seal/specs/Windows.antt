-- What is taken of one sender: each number once, and in the window in any order.
use Rattle.std.specs.Prelude.{◌≡◌, ℕ, ◌+◌, ◌≤◌, ◌⊎◌, Bool, true, false, List, [], ◌∷◌, Option, Some}
use Rattle.qn_seal.specs.declared.seals.Seal.{Seal}
use Rattle.qn_seal.specs.declared.receiver.Newest.{Newest}
use Rattle.qn_seal.specs.Receiving.{is_forgotten, is_newer_than, is_taken, newest_after}

-- a packet that comes at a tick
abbrev pub Coming : Type 0
Coming = Seal × ℕ

-- it is of the boot that is known, and the sender was heard within ten seconds
abbrev pub GoesOn : Newest → Coming → Type 0
GoesOn last came = (is_forgotten last came.1 ≡ false) × (came.0.boot ≡ last.boot)

-- what is known of a sender after these packets of it were taken
abbrev pub known_after : Newest → List Coming → Newest
known_after last [] = last
known_after last (came ∷ later) = known_after (newest_after (Some last) came.0 came.1) later

-- each of them goes on
abbrev pub GoOn : Newest → List Coming → Type 0
GoOn last [] = Unit {0}
GoOn last (came ∷ later) = GoesOn last came × GoOn (newest_after (Some last) came.0 came.1) later

-- a packet that was taken is not new again, whatever was taken after it, while its boot goes on
abbrev pub TakenOnce : Type 0
TakenOnce =
    (last : Option Newest) (first : Coming) (later : List Coming) (tick : ℕ) → GoOn (newest_after last first.0 first.1) later
    → is_forgotten (known_after (newest_after last first.0 first.1) later) tick ≡ false
    → is_newer_than (Some (known_after (newest_after last first.0 first.1) later)) first.0 tick ≡ false

-- a number counts as taken only where it was, or where it is 64 or more behind the greatest
abbrev pub RefusedOnly : Type 0
RefusedOnly =
    (last : Newest) (came : Coming) (number : ℕ) → GoesOn last came → is_taken (newest_after (Some last) came.0 came.1) number ≡ true
    → (number ≡ came.0.number) ⊎ ((is_taken last number ≡ true) ⊎ (number + 64 ≤ (newest_after (Some last) came.0 came.1).number))

-- What reading in pieces does to the bytes that are to come: those that were read and not yet handed out, and then
-- those that the source has left.
use Rattle.std.specs.Prelude.{◌≡◌, ℕ, ◌<◌, List, [], ◌∷◌, Option, length}
use Rattle.std.specs.Io.KnownBytes.{prepend_known, IsAtEnd}
use Rattle.qn_io.specs.declared.buffered.Next.{Next}
use Rattle.qn_io.specs.declared.buffered.Next.TheVariants as next
use Rattle.qn_io.specs.declared.buffered.Refill.{Refill}
use Rattle.qn_io.specs.declared.buffered.Refill.TheVariants as refill

-- A byte is the first of what is to come; at the end nothing is to come; a failure takes nothing.
abbrev pub Gives : Next → Option (List ℕ) → Option (List ℕ) → Type 0
Gives (next.Byte byte) old new = old ≡ prepend_known (byte ∷ []) new
Gives next.End old new = IsAtEnd old × (new ≡ old)
Gives next.Failed old new = new ≡ old

-- At the end and at a failure all bytes that were read are handed out.
abbrev pub IsDrained : Next → List ℕ → Type 0
IsDrained (next.Byte byte) waiting = Unit {0}
IsDrained next.End waiting = waiting ≡ []
IsDrained next.Failed waiting = waiting ≡ []

-- a fact for a failure
abbrev pub OnFailed : Next → Type 0 → Type 0
OnFailed (next.Byte byte) P = Unit {0}
OnFailed next.End P = Unit {0}
OnFailed next.Failed P = P

-- The new piece is what the source had first; at the end it had nothing left; a failure takes nothing.
abbrev pub Refills : Refill → List ℕ → Option (List ℕ) → Option (List ℕ) → Type 0
Refills refill.Bytes piece old new = (0 < length piece) × (old ≡ prepend_known piece new)
Refills refill.End piece old new = (piece ≡ []) × IsAtEnd old × (new ≡ old)
Refills refill.Failed piece old new = (piece ≡ []) × (new ≡ old)

-- a fact for a failed read of a piece
abbrev pub OnFailedRefill : Refill → Type 0 → Type 0
OnFailedRefill refill.Bytes P = Unit {0}
OnFailedRefill refill.End P = Unit {0}
OnFailedRefill refill.Failed P = P

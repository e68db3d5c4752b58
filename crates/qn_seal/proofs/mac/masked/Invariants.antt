use Rattle.std.proofs.Common.{◌≡◌, bit_xor, ℕ, ◌<◌, ◌≤◌, slice_index_or}
use Rattle.qn_seal.proofs.mac.masked.Given as goal

abbrev pub invariant-loop-place : goal.invariant-loop-place
invariant-loop-place l =
    ((k : ℕ) → k < l.place-index → slice_index_or l.place-items k 0 ≡ bit_xor (slice_index_or l.key k 0) l.byte)
    × ((k : ℕ) → l.place-index ≤ k → slice_index_or l.place-items k 0 ≡ slice_index_or l.key k 0)

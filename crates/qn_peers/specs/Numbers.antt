-- The numbers of the packets that a node seals, for each receiver by itself (this project's profile).
use Rattle.std.specs.Prelude.{ℕ, List, slice_index_or}
use Rattle.qn_io.specs.Counts.{one_more}

-- the number of the next packet to a receiver, where so many were sealed for each
abbrev pub next_number : List ℕ → ℕ → ℕ
next_number sent to = one_more (slice_index_or sent to 0)

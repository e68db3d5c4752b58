use Rattle.std.proofs.Common.{◌≡◌, ℕ, Some, length}
use Rattle.std.specs.Prelude.{slice_get}
use Rattle.qn_cluster.specs.declared.seat.Seat.{Seat}
use Rattle.qn_cluster.specs.Seats.{IsFresh}
use Rattle.qn_cluster.proofs.first.seats_of.Given as goal

abbrev pub invariant-loop-rank : goal.invariant-loop-rank
invariant-loop-rank l = record {
  count : length l.seats.items ≡ l.rank;
  fresh : (rank : ℕ) (seat : Seat) → slice_get l.seats.items rank ≡ Some seat → IsFresh seat;
}

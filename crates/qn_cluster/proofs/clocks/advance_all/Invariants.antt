use Rattle.std.proofs.Common.{◌≡◌, ℕ, ◌<◌, ◌≤◌}
use Rattle.std.specs.Prelude.{slice_get}
use Rattle.std.specs.Option.{option_map}
use Rattle.qn_model.specs.Moments.{advance_of}
use Rattle.qn_cluster.specs.Seats.{advanced_seat}
use Rattle.qn_cluster.proofs.clocks.advance_all.Given as goal

abbrev pub invariant-loop-rank : goal.invariant-loop-rank
invariant-loop-rank l = record {
  passed : (j : ℕ) → j < l.rank → slice_get l.seats j ≡ option_map (advanced_seat (advance_of l.dt l.clocks j)) (slice_get l.fn.seats j);
  ahead : (j : ℕ) → l.rank ≤ j → slice_get l.seats j ≡ slice_get l.fn.seats j;
}

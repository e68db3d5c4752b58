-- The tests of the rules on the seat of a node.
use Rattle.std.specs.Prelude.{ℕ, Bool, true, false, List, Option, slice_get, ◌+◌, ◌-◌, ◌*◌, ◌&&◌, ◌||◌, not, nat_le}
use Rattle.std.specs.Option.{option_map_or}
use Rattle.qn_base.specs.declared.ids.Rank.{Rank}
use Rattle.qn_model.specs.Moments.{advance_of}
use Rattle.qn_model.specs.Rules.{is_within_bounds}
use Rattle.qn_cluster.specs.Nodes.{Nodes}
use Rattle.qn_cluster.specs.declared.seat.Seat.{Seat}

-- a feed was decided, and at most so long ago
abbrev pub decided_lately : ℕ → ℕ → Option ℕ → Bool
decided_lately now delay decided = option_map_or (λ decided. nat_le (now - decided) delay) decided false

-- the node of a seat lives through a pass to a later time
abbrev pub lives_through : ℕ → ℕ → ℕ → ℕ → Seat → Bool
lives_through watchdog dt advance later seat =
    not seat.on || is_within_bounds dt advance && nat_le (99 * (later - seat.fed)) (100 * watchdog)

-- the node of a rank is running
abbrev pub on_at : Nodes → ℕ → Bool
on_at c rank = option_map_or (λ seat. seat.on) (slice_get c.seats rank) false

-- the node of a rank, if it is running, lives through a pass
abbrev pub passes_at : ℕ → Nodes → ℕ → List (Rank × ℕ) → ℕ → Bool
passes_at watchdog c dt clocks rank =
    option_map_or (λ seat. lives_through watchdog dt (advance_of dt clocks rank) (c.time + dt) seat) (slice_get c.seats rank) true

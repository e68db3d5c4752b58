-- Which seats hold the resource. This project's profile.
use Rattle.std.specs.Prelude.{ℕ, Bool, false, List, length, filter, ◌&&◌, slice_get}
use Rattle.std.specs.List.{range_with_len}
use Rattle.std.specs.Option.{option_map_or}
use Rattle.qn_base.specs.declared.ids.Mask.{Mask}
use Rattle.qn_model.specs.Lines.{mask_of}
use Rattle.qn_cluster.specs.declared.seat.Seat.{Seat}

-- whether the seat of a rank is on and holds the resource
abbrev pub holds_at : List Seat → ℕ → Bool
holds_at seats rank = option_map_or (λ (seat : Seat). seat.on && seat.held) (slice_get seats rank) false

-- the ranks whose seats hold it
abbrev pub holders_among : List Seat → Mask
holders_among seats = mask_of (filter (holds_at seats) (range_with_len 0 (length seats)))

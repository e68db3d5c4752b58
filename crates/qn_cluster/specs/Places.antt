-- Leftovers of all ranks and images in one list, oldest first.
use Rattle.std.specs.Prelude.{ℕ, suc, zero, Bool, List, [], ◌∷◌, ◌++◌, Option, None, Some, ◌==◌, ◌-◌, ◌+◌, not, filter, false, slice_index_or, if◌then◌else◌}
use Rattle.std.specs.Option.{option_map}
use Rattle.qn_base.specs.declared.ids.Rank.{Rank}
use Rattle.qn_cluster.specs.declared.leftovers.Leftover.{Leftover}
use Rattle.qn_model.specs.declared.outputs.DiskOp.{DiskOp}

-- the place of the leftover with that number, from 1, among those that pass a test
abbrev pub place_in : (Leftover → Bool) → ℕ → List Leftover → Option ℕ
place_in mine number [] = None
place_in mine number (leftover ∷ others) =
    if mine leftover then (if number == 1 then Some 0 else option_map suc (place_in mine (number - 1) others))
    else option_map suc (place_in mine number others)

-- the leftovers of the other ranks
abbrev pub others_of : ℕ → List Leftover → List Leftover
others_of rank left = filter (λ leftover. not (leftover.of.0 == rank)) left

-- the leftovers of a write of a rank on the first images, as far as they are marked
abbrev pub marked_on : Rank → DiskOp → List Bool → ℕ → List Leftover
marked_on rank op marks zero = []
marked_on rank op marks (suc place) =
    marked_on rank op marks place
    ++ (if slice_index_or marks place false then (record { of = rank; image = place + 1; op = op }) ∷ [] else [])

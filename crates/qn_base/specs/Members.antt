use Rattle.std.specs.Prelude.{ℕ, Bool, List, [], ◌∷◌, ◌+◌, ◌==◌, if◌then◌else◌}
use Rattle.std.specs.Int.{bit_at}
use Rattle.qn_base.specs.declared.ids.Mask.{Mask}

-- whether the rank is one of the members
abbrev pub is_member : Mask → ℕ → Bool
is_member members rank = bit_at members.0 rank == 1

-- the votes of the members among these nodes, of which the first has rank `rank`
abbrev pub votes_from : ℕ → List ℕ → Mask → ℕ
votes_from rank [] members = 0
votes_from rank (count ∷ counts) members =
    (if is_member members rank then count else 0) + votes_from (rank + 1) counts members

-- votequorum(5), "OVERVIEW": the plain sum of the votes of the members
abbrev pub votes_of : List ℕ → Mask → ℕ
votes_of counts members = votes_from 0 counts members

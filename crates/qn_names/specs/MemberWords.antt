-- Lists of members, as a schedule and a journal print them: this project's profile.
use Rattle.std.specs.Prelude.{ℕ, ◌+◌, if◌then◌else◌, List, [], ◌∷◌, map, decimal}
use Rattle.std.specs.List.{join_with_byte}
use Rattle.qn_base.specs.declared.ids.Mask.{Mask}
use Rattle.qn_base.specs.Members.{is_member}

-- the ids of the members among these nodes, of which the first has rank `rank`
abbrev pub ids_from : ℕ → List ℕ → Mask → List ℕ
ids_from rank [] members = []
ids_from rank (id ∷ ids) members =
    if is_member members rank then id ∷ ids_from (rank + 1) ids members else ids_from (rank + 1) ids members

-- numbers in decimal digits, joined by a byte
abbrev pub joined : ℕ → List ℕ → List ℕ
joined byte numbers = join_with_byte byte (map decimal numbers)

-- a list of members: their ids, ascending, joined by commas
abbrev pub member_word : List ℕ → Mask → List ℕ
member_word ids members = joined 44 (ids_from 0 ids members)

-- The keys of an object, some of which are left out. This project's profile.
use Rattle.std.specs.Prelude.{ℕ, List, [], ◌∷◌, Option, Some, None}
use Rattle.json.specs.Json.{Json, Members, no_members, member}

-- a key with its value; None: the key is left out
abbrev pub Entry : Type 0
Entry = List ℕ × Option Json

abbrev pub put : List ℕ → Option Json → Members → Members
put key None rest = rest
put key (Some j) rest = member key j rest

-- the members that are not left out, in their order
abbrev pub entries_members : List Entry → Members
entries_members [] = no_members
entries_members (e ∷ rest) = put e.0 e.1 (entries_members rest)

-- this project's profile: the keys that keep an image under a prefix.
use Rattle.std.specs.Prelude.{ℕ, ◌+◌, ◌/◌, ◌%◌, List, [], ◌∷◌, ◌++◌, codes}

-- the last decimal digit of a number
abbrev pub digit : ℕ → ℕ
digit n = 48 + n % 10

-- the key of a sector: `PREFIX/0513`
unfoldable pub sector_key : List ℕ → ℕ → List ℕ
sector_key prefix sector =
    prefix ++ codes "/" ++ digit (sector / 1000) ∷ digit (sector / 100) ∷ digit (sector / 10) ∷ digit sector ∷ []

-- the key that holds the token of the boot that may read and write for the node of a rank: `PREFIX/writer/01`
unfoldable pub writer_key : List ℕ → ℕ → List ℕ
writer_key prefix rank = prefix ++ codes "/writer/" ++ digit (rank / 10) ∷ digit rank ∷ []

-- all keys of an image are from this one on, and before the next one: `PREFIX/` and `PREFIX0`
unfoldable pub first_key : List ℕ → List ℕ
first_key prefix = prefix ++ codes "/"

unfoldable pub end_key : List ℕ → List ℕ
end_key prefix = prefix ++ codes "0"

-- What a count comes to.
use Rattle.std.specs.Prelude.{ℕ, ◌+◌, min}

-- one more, up to the greatest u64
abbrev pub one_more : ℕ → ℕ
one_more count = min (count + 1) 18446744073709551615

use Rattle.std.specs.Prelude.{ℕ, ◌<◌}

-- this project's profile: a count of faults rose. A count that stands at its counter's last value is
-- taken as one that rose.
abbrev pub HasRisen : ℕ → ℕ → Type 0
HasRisen old new = old < 18446744073709551615 → old < new

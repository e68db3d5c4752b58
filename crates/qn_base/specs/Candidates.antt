-- Which rank a view names by its number. This project's profile.
use Rattle.std.specs.Prelude.{ℕ, Bool, ◌+◌, ◌/◌, ◌^◌, ◌==◌}
use Rattle.qn_base.specs.declared.ids.View.{View}

-- a view names a rank where the high byte of its number is one more than the rank
abbrev pub is_named : View → ℕ → Bool
is_named view rank = view.id / 2 ^ 56 == rank + 1

-- a view names nobody, not even its least member, where the high byte of its number is 254
abbrev pub is_barred : View → Bool
is_barred view = view.id / 2 ^ 56 == 254

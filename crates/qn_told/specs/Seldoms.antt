-- What happens often is told at most once in ten seconds (this project's profile, LIVE.md "The journal").
use Rattle.std.specs.Prelude.{ℕ, ◌+◌, ◌-◌, ◌^◌, ◌==◌, ◌||◌, Bool, false, Option, Some, None, min, nat_lt, if◌then◌else◌}
use Rattle.qn_told.specs.declared.seldom.Seldom.{Seldom}

-- it happened once more; a count stays at its greatest number
abbrev pub counted : Seldom → Seldom
counted seldom = record seldom { untold = min (2 ^ 64 - 1) (seldom.untold + 1); all = min (2 ^ 64 - 1) (seldom.all + 1) }

-- it was told less than ten seconds ago
abbrev pub is_early : Option ℕ → ℕ → Bool
is_early None tick = false
is_early (Some told) tick = nat_lt tick (min (2 ^ 64 - 1) (told + 10000))

-- how often it happened since it was told last, where it is to be told
abbrev pub due_count : Seldom → ℕ → Option ℕ
due_count seldom tick = if (seldom.untold == 0) || is_early seldom.told tick then None else Some seldom.untold

abbrev pub after_due : Seldom → ℕ → Seldom
after_due seldom tick =
    if (seldom.untold == 0) || is_early seldom.told tick then seldom else record seldom { untold = 0; told = Some tick }

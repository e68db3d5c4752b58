-- What a node tells the others of itself, and when (this project's profile, docs/STATUS.md "What a node is told").
use Rattle.std.specs.Prelude.{ℕ, ◌+◌, ◌-◌, ◌^◌, ◌||◌, Bool, true, not, Option, Some, None, is_some, min, nat_le, option_map, if◌then◌else◌}
use Rattle.std.specs.Option.{unwrap_or}
use Rattle.qn_told.specs.declared.telling.Telling.{Telling}
use Rattle.qn_shown.specs.declared.shown.Told.{Told}

-- it holds since a tick and does not now, or the other way round
abbrev pub changes : Option ℕ → Bool → Bool
changes (Some since) holds = not holds
changes None holds = holds

abbrev pub is_change : Telling → Bool → Bool
is_change telling holds = changes telling.since holds

-- nothing was told for a loop
abbrev pub is_old : Option ℕ → ℕ → ℕ → Bool
is_old None tick loop_ms = true
is_old (Some told) tick loop_ms = nat_le (min (2 ^ 64 - 1) (told + loop_ms)) tick

-- at once where it changed, and once a loop
abbrev pub is_due : Telling → ℕ → ℕ → Bool → Bool
is_due telling tick loop_ms holds = is_change telling holds || is_old telling.told tick loop_ms

abbrev pub since_after : Option ℕ → ℕ → Bool → Option ℕ
since_after (Some since) tick holds = if holds then Some since else None
since_after None tick holds = if holds then Some tick else None

abbrev pub after_telling : Telling → ℕ → ℕ → Bool → Telling
after_telling telling tick loop_ms holds = record telling {
  since = since_after telling.since tick holds;
  told = if is_due telling tick loop_ms holds then Some tick else telling.told;
}

-- for how many milliseconds it holds
abbrev pub held_ms : Telling → ℕ → Option ℕ
held_ms telling tick = option_map (λ since. tick - since) telling.since

-- what it tells in the boot of a number
abbrev pub told_of : Telling → ℕ → Bool → Bool → ℕ → Told
told_of telling tick leaving quorate incarnation = record {
  group = telling.group;
  held_ms = unwrap_or (held_ms telling tick) 0;
  holds = is_some telling.since;
  incarnation = incarnation;
  leaving = leaving;
  quorate = quorate;
}

-- Of stops that fail one after the other the first is told, and their count once one succeeds (this project's profile, LIVE.md "The journal").
use Rattle.std.specs.Prelude.{ℕ, ◌+◌, ◌-◌, ◌*◌, ◌^◌, ◌==◌, ◌||◌, Bool, Option, min, nat_lt, if◌then◌else◌}
use Rattle.std.specs.Bool.{then_some}
use Rattle.qn_told.specs.declared.stops.Stops.{Stops}

-- a stop that is asked for more than three loops after the answer of one that failed does not follow it
abbrev pub is_over : ℕ → ℕ → ℕ → Bool
is_over failed tick loop_ms = nat_lt (min (2 ^ 64 - 1) (loop_ms * 3)) (tick - failed)

abbrev pub after_asking : Stops → ℕ → ℕ → Stops
after_asking stops tick loop_ms = if is_over stops.tick tick loop_ms then record stops { failed = 0 } else stops

-- how many failed before a stop that was answered: of one that succeeded, and of the first that fails
abbrev pub count_told : Stops → Bool → Option ℕ
count_told stops ok = then_some (ok || stops.failed == 0) stops.failed

-- one that succeeded ends the count
abbrev pub after_taking : Stops → Bool → ℕ → Stops
after_taking stops ok tick =
    if ok then record stops { failed = 0 }
    else record { failed = min (2 ^ 64 - 1) (stops.failed + 1); tick = tick }

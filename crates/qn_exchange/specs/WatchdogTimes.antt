-- The times of a watchdog (sbd(8), `-5`; the layout of the header is this project's profile).
use Rattle.std.specs.Prelude.{ℕ, Bool, ◌*◌, ◌-◌, ◌&&◌, ◌==◌, nat_le, nat_lt, List, length, take, slice_index, Option, None, if◌then◌else◌}
use Rattle.qn_base.specs.Decimal.{number_of}

-- the device's time in seconds is not 0, and no longer than the image's in milliseconds
abbrev pub is_time_safe : ℕ → ℕ → Bool
is_time_safe seconds watchdog = nat_lt 0 seconds && nat_le (seconds * 1000) watchdog

-- a line of decimal digits, as the kernel writes `timeout` of a watchdog
abbrev pub seconds_in : List ℕ → Option ℕ
seconds_in text =
    if nat_lt 0 (length text) && slice_index text (length text - 1) == 10
    then number_of (take (length text - 1) text) else None

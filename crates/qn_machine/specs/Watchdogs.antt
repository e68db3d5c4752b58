-- What the kernel says of a watchdog in its folder of sysfs, and which one may be armed: Linux, Documentation/ABI/testing/sysfs-class-watchdog
-- and Documentation/watchdog/watchdog-api.rst; that each finding but nowayout refuses a start is this project's profile.
use Rattle.std.specs.Prelude.{ℕ, Bool, ◌-◌, ◌&&◌, ◌==◌, nat_eq, nat_le, List, codes, length, slice_index, Option, None, Some, if◌then◌else◌}
use Rattle.std.specs.List.{list_any, starts_with}
use Rattle.std.specs.Str.{bytes_eq}
use Rattle.qn_exchange.specs.WatchdogTimes.{is_time_safe}
use Rattle.qn_machine.specs.declared.watchdog_look.Finding.{Finding}
use Rattle.qn_machine.specs.declared.watchdog_look.Finding.TheVariants.{NoMagicClose, NoTime, NoWayOut, Time}
use Rattle.qn_machine.specs.declared.watchdog_look.WatchdogSeen.{WatchdogSeen}

-- the text of `nowayout` where it is on
abbrev pub is_one : List ℕ → Bool
is_one text = bytes_eq text (codes "1\n")

-- the hexadecimal digits of odd numbers
abbrev pub is_odd_digit : ℕ → Bool
is_odd_digit byte = list_any (λ digit. byte == digit) (codes "13579bdf")

-- the bit 0x100 of a number that is written as `0x8180`, with the end of its line: its third digit from the last is odd
abbrev pub knows_magic_close : List ℕ → Bool
knows_magic_close text =
    starts_with nat_eq text (codes "0x") && nat_le 6 (length text) && is_odd_digit (slice_index text (length text - 4))

-- of a device whose time is known
abbrev pub finding_at : ℕ → WatchdogSeen → ℕ → Option Finding
finding_at seconds seen watchdog =
    if is_time_safe seconds watchdog
    then if seen.has_no_way_out then Some NoWayOut else if seen.has_magic_close then None else Some NoMagicClose
    else Some (Time seconds watchdog)

-- where a time is known, and where none is
abbrev pub finding_by : Option ℕ → WatchdogSeen → ℕ → Option Finding
finding_by None seen watchdog = Some NoTime
finding_by (Some seconds) seen watchdog = finding_at seconds seen watchdog

-- what is to be said of a device beside an image whose watchdog's time is so many milliseconds
abbrev pub finding_of : WatchdogSeen → ℕ → Option Finding
finding_of seen watchdog = finding_by seen.seconds seen watchdog

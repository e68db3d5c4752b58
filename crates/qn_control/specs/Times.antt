-- Times of an image, as an operator chooses them, and how long a take-over takes with them on a disk of a known latency. This
-- project's profile.
use Rattle.std.specs.Prelude.{ℕ, Bool, ◌+◌, ◌*◌, ◌/◌, Option, Some, None, if◌then◌else◌, nat_le, nat_lt, max}
use Rattle.qn_model.specs.declared.times.Timing.{Timing}
use Rattle.qn_progress.specs.Pace.{Pace, take_over_ticks}
use Rattle.qn_control.specs.declared.unbounded.Unbounded.{Unbounded}
use Rattle.qn_control.specs.declared.unbounded.Unbounded.TheVariants.{Loop, ReadLimit, Watchdog}

-- the times with another msgwait
abbrev pub with_msgwait : Timing → ℕ → Timing
with_msgwait t msgwait = record {
  watchdog = t.watchdog;
  msgwait = msgwait;
  loop_ms = t.loop_ms;
  read_limit = t.read_limit;
  feed_delay = t.feed_delay;
}

-- so many ticks pass in so many true milliseconds at most, as a clock may run one in a hundred fast
abbrev pub ticks_of : ℕ → ℕ
ticks_of milliseconds = (101 * milliseconds + 99) / 100

-- A running node that waits takes a turn at least each 50 milliseconds, and none during a call of its disk.
abbrev pub turn_on : ℕ → ℕ
turn_on disk = max (ticks_of disk) (ticks_of 50)

-- the pace of a running node whose disk answers each call within so many milliseconds
abbrev pub pace_on : ℕ → Pace
pace_on disk = record { disk = ticks_of disk; turn = turn_on disk }

-- a call of the disk takes less than a loop
abbrev pub is_below_loop : Timing → ℕ → Bool
is_below_loop t disk = nat_lt (ticks_of disk) t.loop_ms

-- each read of the own mailbox comes within the read limit, so it feeds the watchdog
abbrev pub is_in_read_limit : Timing → ℕ → Bool
is_in_read_limit t disk = nat_le (101 * disk) (100 * t.read_limit)

-- two feeds are never a watchdog apart: a loop from one asking to the next, a turn, a call and the delay of a feed
abbrev pub is_fed_in_time : Timing → ℕ → Bool
is_fed_in_time t disk = nat_le (t.loop_ms + turn_on disk + ticks_of disk + t.feed_delay) t.watchdog

-- The first of the conditions of a take-over within a bound that is not met on a disk whose calls take so many milliseconds at
-- most; None where all are.
abbrev pub unbounded : Timing → ℕ → Option Unbounded
unbounded t disk =
    if is_below_loop t disk
    then (if is_in_read_limit t disk then (if is_fed_in_time t disk then None else Some Watchdog) else Some ReadLimit)
    else Some Loop

-- The news of a node, what it hears and whom it follows, come so many ticks after it saw them at the latest: a sixteenth of a loop
-- after its last Hello, and each of the two nodes takes a turn.
abbrev pub news_ticks : Timing → ℕ → ℕ
news_ticks t disk = (t.loop_ms + 15) / 16 + 2 * turn_on disk

-- From the end of nodes until the least of the others has a view without them: three loops and a tick after their last Hello
-- none of them is heard at a look, then come the news of who followed one of them, and from then on for a loop the company is the
-- same; the first and the last of these end by a look in time.
abbrev pub missing_ticks : Timing → ℕ → ℕ
missing_ticks t disk = 3 * t.loop_ms + 1 + turn_on disk + news_ticks t disk + (t.loop_ms + turn_on disk)

-- From the end of so many nodes until another one starts, in true milliseconds: of these a clock may miss one in a hundred.
abbrev pub take_over : Timing → ℕ → ℕ → ℕ
take_over t disk lost = (100 * (missing_ticks t disk + take_over_ticks t (pace_on disk) lost) + 98) / 99

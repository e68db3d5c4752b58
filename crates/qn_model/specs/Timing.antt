use Rattle.std.specs.Prelude.{ℕ, Bool, ◌*◌, ◌+◌, ◌-◌, ◌&&◌, nat_le}
use Rattle.qn_base.specs.declared.limits.TheConstants.{LONGEST_PERIOD}
use Rattle.qn_model.specs.declared.times.Timing.{Timing}

-- a time is one millisecond to one hour
abbrev pub is_period : ℕ → Bool
is_period time = nat_le 1 time && nat_le time LONGEST_PERIOD

abbrev pub has_periods : Timing → Bool
has_periods t =
    is_period t.watchdog && is_period t.msgwait && is_period t.loop_ms && is_period t.read_limit && is_period t.feed_delay

-- sbd(8), msgwait, tightened by this project's profile: with clocks one per cent off, the last feed that
-- a node may decide, delayed as long as a feed may be, and a whole watchdog after it end within msgwait
abbrev pub outlasts_feeds : Timing → Bool
outlasts_feeds t = nat_le (101 * (t.read_limit + 1 + t.watchdog + t.feed_delay)) (99 * (t.msgwait - 1))

-- safe timing
abbrev pub is_safe : Timing → Bool
is_safe t = has_periods t && outlasts_feeds t

-- sbd(8): the times that an image gets where none are given. The read limit and the feed delay are this project's
-- profile.
abbrev pub usual_times : Timing
usual_times = record { watchdog = 5000; msgwait = 10000; loop_ms = 1000; read_limit = 2000; feed_delay = 1000 }

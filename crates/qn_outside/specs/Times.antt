-- What the headers of the images of a node say together (this project's profile).
use Rattle.std.specs.Prelude.{min, Option, Some, None}
use Rattle.qn_outside.specs.declared.times.Times.{Times}

-- the lesser of both, each by itself
abbrev pub least : Times → Times → Times
least first second =
    record { watchdog = min first.watchdog second.watchdog; feed_delay = min first.feed_delay second.feed_delay }

-- the lesser of what two headers say, of those that say any
abbrev pub lesser : Option Times → Option Times → Option Times
lesser None second = second
lesser (Some first) None = Some first
lesser (Some first) (Some second) = Some (least first second)

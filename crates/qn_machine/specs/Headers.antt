-- What the outside of a node takes of the header of an image, where a word of a machine was said before the command (this project's profile).
use Rattle.std.specs.Prelude.{ℕ, ◌==◌, nat_lt, Option, Some, None, Result, Ok, Err, if◌then◌else◌}
use Rattle.qn_model.specs.declared.times.Timing.{Timing}
use Rattle.qn_model.specs.Timing.{is_safe}
use Rattle.qn_outside.specs.declared.times.Times.{Times}
use Rattle.qn_machine.specs.declared.headers.HeaderFault.{HeaderFault}
use Rattle.qn_machine.specs.declared.headers.HeaderFault.TheVariants as fault

-- with a feed delay of 1 no feed is in time
abbrev pub times_fault : Timing → Option HeaderFault
times_fault timing =
    if is_safe timing
    then (if nat_lt timing.feed_delay 2 then Some (fault.NoFeed timing.feed_delay) else None)
    else Some fault.UnsafeTimes

-- why a node of a text of so many nodes is not opened beside that header; a text that was not given has any number
abbrev pub header_fault : Option ℕ → ℕ → Timing → Option HeaderFault
header_fault None nodes timing = times_fault timing
header_fault (Some text) nodes timing = if text == nodes then times_fault timing else Some (fault.OtherNodes nodes text)

abbrev pub header_times : Timing → Times
header_times timing = record { watchdog = timing.watchdog; feed_delay = timing.feed_delay }

abbrev pub times_unless : Option HeaderFault → Times → Result Times HeaderFault
times_unless None times = Ok times
times_unless (Some why) times = Err why

-- the times that the header says, or why they are not taken
abbrev pub times_of : Option ℕ → Option (ℕ × Timing) → Result Times HeaderFault
times_of text None = Err fault.NoHeader
times_of text (Some header) = times_unless (header_fault text header.0 header.1) (header_times header.1)

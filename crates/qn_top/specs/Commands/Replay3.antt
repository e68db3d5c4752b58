-- `replay3`: the trace of a schedule of three images, and then its last line; this project's profile.
use Rattle.std.specs.Prelude.{ℕ, List, Option}
use Rattle.qn_commands.specs.Seen.{Seen}
use Rattle.qn_replay.specs.TripleReplay.{WantsMemory, replay3_of}
use Rattle.qn_replay.specs.TripleTrace.{IsRunTrace}
use Rattle.qn_top.specs.Traces.{ShowsTrace, WritesTrace, replay_statuses}

-- The trace and its last line were written. It runs out of memory before any of it, or at an event that adds a packet or a
-- leftover to the world.
abbrev pub Replays3 : Seen → Seen → ℕ → Type 0
Replays3 = WritesTrace replay3_of WantsMemory replay_statuses

-- What was written is a prefix of lines of a run of the world of three images, in which each event was allowed and each line
-- names one holder at most, and of a last line after them.
abbrev pub ShowsTripleRun : Option (List ℕ) → Option (List ℕ) → Type 0
ShowsTripleRun = ShowsTrace IsRunTrace

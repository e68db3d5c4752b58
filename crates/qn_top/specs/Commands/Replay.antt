-- `replay`: the trace of a schedule, and then its last line; this project's profile.
use Rattle.std.specs.Prelude.{ℕ, List, Option}
use Rattle.qn_commands.specs.Seen.{Seen}
use Rattle.qn_replay.specs.Replay.{replay_of}
use Rattle.qn_replay.specs.RunTrace.{IsRunTrace}
use Rattle.qn_replay.specs.Runs.{WantsMemory}
use Rattle.qn_top.specs.Traces.{ShowsTrace, WritesTrace, replay_statuses}

-- The trace and its last line were written. It runs out of memory before any of it, or at an event that adds a packet or a
-- leftover to the world.
abbrev pub Replays : Seen → Seen → ℕ → Type 0
Replays = WritesTrace replay_of WantsMemory replay_statuses

-- What was written is a prefix of lines of a run of the world, in which each event was allowed and each line names one
-- holder at most, and of a last line after them.
abbrev pub ShowsRun : Option (List ℕ) → Option (List ℕ) → Type 0
ShowsRun = ShowsTrace IsRunTrace

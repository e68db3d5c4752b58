-- `replay-arbiter`: the trace of a schedule beside an arbiter, and then its last line; this project's profile.
use Rattle.std.specs.Prelude.{ℕ, List, Option}
use Rattle.qn_replay.specs.BesideReplay.{WantsMemory, replay_arbiter_of}
use Rattle.qn_replay.specs.BesideTrace.{IsRunTrace}
use Rattle.qn_commands.specs.Seen.{Seen}
use Rattle.qn_top.specs.Traces.{ShowsTrace, WritesTrace, lease_statuses}

-- The trace and its last line were written. It runs out of memory before any of it, or at an event that the world wants memory
-- for.
abbrev pub ReplaysBeside : Seen → Seen → ℕ → Type 0
ReplaysBeside = WritesTrace replay_arbiter_of WantsMemory lease_statuses

-- What was written is a prefix of lines of a run of the world beside an arbiter, in which each event was allowed and each line
-- names one holder at most, and of a last line after them.
abbrev pub ShowsRunBeside : Option (List ℕ) → Option (List ℕ) → Type 0
ShowsRunBeside = ShowsTrace IsRunTrace

-- The end of a span of time, as a tick of 64 bits where there is one.
use Rattle.std.specs.Prelude.{ℕ, Bool, false, ◌^◌, nat_le, nat_lt, if◌then◌else◌}
use Rattle.qn_quorum.specs.declared.deadlines.Deadline.{Deadline}
use Rattle.qn_quorum.specs.declared.deadlines.Deadline.TheVariants as deadline

-- the deadline at a number of milliseconds
abbrev pub deadline_at : ℕ → Deadline
deadline_at end = if nat_lt end (2 ^ 64) then deadline.At end else deadline.Never

abbrev pub is_reached : Deadline → ℕ → Bool
is_reached (deadline.At end) now = nat_le end now
is_reached deadline.Never now = false

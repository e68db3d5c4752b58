use Rattle.std.proofs.Common.{◌≡◌, ◌<◌, ℕ, None, ◌+◌}
use Rattle.qn_control.specs.Times.{unbounded}
use Rattle.qn_control.proofs.times.slowest_disk.Given as goal

abbrev pub invariant-loop-faster : goal.invariant-loop-faster
invariant-loop-faster l = (slower : ℕ) → l.timing.loop_ms < slower + l.faster → ¬ (unbounded l.timing slower ≡ None)

use Rattle.std.proofs.Common.{◌≡◌, ℕ, ◌<◌, ◌≤◌, false}
use Rattle.qn_model.specs.Timing.{is_safe}
use Rattle.qn_control.specs.Times.{with_msgwait}
use Rattle.qn_control.proofs.times.least_msgwait.Given as goal

abbrev pub invariant-loop-msgwait : goal.invariant-loop-msgwait
invariant-loop-msgwait l = (less : ℕ) → 1 ≤ less → less < l.msgwait → is_safe (with_msgwait l.timing less) ≡ false

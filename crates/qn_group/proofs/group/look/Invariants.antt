-- So far no resource is looked at.
use Rattle.std.proofs.Common.{◌≡◌}
use Rattle.qn_group.proofs.group.look.Given as goal

abbrev pub invariant-loop-at : goal.invariant-loop-at
invariant-loop-at l = l.phases ≡ l.fn.phases

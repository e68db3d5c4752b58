-- Of those that were reached nothing is known.
use Rattle.std.proofs.Common.{◌≡◌, ◌<◌, ℕ, length, get_or}
use Rattle.qn_group.specs.declared.phase.Phase.TheVariants as phase
use Rattle.qn_group.proofs.group.Group.new.Given as goal

abbrev pub invariant-loop-at : goal.invariant-loop-at
invariant-loop-at l = (length l.phases ≡ 16) × ((k : ℕ) → k < l.at → get_or l.phases k phase.Down ≡ phase.New)

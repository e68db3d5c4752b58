use Rattle.std.proofs.Common.{◌≡◌, length}
use Rattle.qn_settings.specs.Nodes.{repeated_in}
use Rattle.qn_settings.proofs.nodes.repeated_id.Given as goal

abbrev pub invariant-loop-rest : goal.invariant-loop-rest
invariant-loop-rest l = repeated_in l.rest ≡ repeated_in l.fn.nodes

abbrev pub decreases-loop-rest : goal.decreases-loop-rest
decreases-loop-rest l = length l.rest

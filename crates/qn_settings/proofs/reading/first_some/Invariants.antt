use Rattle.std.proofs.Common.{◌≡◌, length}
use Rattle.qn_settings.specs.Values.{first_some}
use Rattle.qn_settings.proofs.reading.first_some.Given as goal

abbrev pub invariant-loop-rest : goal.invariant-loop-rest
invariant-loop-rest l = first_some l.rest ≡ first_some l.fn.faults

abbrev pub decreases-loop-rest : goal.decreases-loop-rest
decreases-loop-rest l = length l.rest

use Rattle.std.proofs.Common.{◌≡◌, length}
use Rattle.qn_conf.specs.Line.{trim_end}
use Rattle.qn_conf.proofs.line.trim_end.Given as goal

abbrev pub invariant-loop-rest : goal.invariant-loop-rest
invariant-loop-rest l = trim_end l.rest ≡ trim_end l.fn.text

abbrev pub decreases-loop-rest : goal.decreases-loop-rest
decreases-loop-rest l = length l.rest

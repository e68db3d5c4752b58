use Rattle.std.proofs.Common.{◌≡◌, length}
use Rattle.qn_conf.specs.Line.{trim_start}
use Rattle.qn_conf.proofs.line.trim_start.Given as goal

abbrev pub invariant-loop-rest : goal.invariant-loop-rest
invariant-loop-rest l = trim_start l.rest ≡ trim_start l.fn.text

abbrev pub decreases-loop-rest : goal.decreases-loop-rest
decreases-loop-rest l = length l.rest

use Rattle.std.proofs.Common.{◌≡◌, drop}
use Rattle.qn_notice.specs.Events.{halt_of}
use Rattle.qn_notice.proofs.comparing.halt_of.Given as goal

abbrev pub invariant-loop-out : goal.invariant-loop-out
invariant-loop-out l = halt_of l.outs ≡ halt_of (drop l.out-index l.out-items)

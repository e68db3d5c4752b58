use Rattle.std.proofs.Common.{◌≡◌, drop}
use Rattle.qn_live.specs.Performing.{end_in}
use Rattle.qn_live.proofs.outputs.end_in.Given as goal

abbrev pub invariant-loop-out : goal.invariant-loop-out
invariant-loop-out l = end_in l.entry l.outs ≡ end_in l.entry (drop l.out-index l.out-items)

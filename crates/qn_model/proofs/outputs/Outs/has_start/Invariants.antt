use Rattle.std.proofs.Common.{◌≡◌, drop}
use Rattle.qn_model.specs.Log.{has_start}
use Rattle.qn_model.proofs.outputs.Outs.has_start.Given as goal

abbrev pub invariant-loop-out : goal.invariant-loop-out
invariant-loop-out l = has_start l.self ≡ has_start (drop l.out-index l.out-items)

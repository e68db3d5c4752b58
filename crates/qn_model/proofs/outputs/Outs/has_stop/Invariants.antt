use Rattle.std.proofs.Common.{◌≡◌, drop}
use Rattle.qn_model.specs.Log.{has_stop}
use Rattle.qn_model.proofs.outputs.Outs.has_stop.Given as goal

abbrev pub invariant-loop-out : goal.invariant-loop-out
invariant-loop-out l = has_stop l.self ≡ has_stop (drop l.out-index l.out-items)

use Rattle.std.proofs.Common.{◌≡◌, [], take}
use Rattle.qn_model.specs.Moments.{packets_of}
use Rattle.qn_cluster.proofs.outputs.sends.Given as goal

abbrev pub invariant-loop-out : goal.invariant-loop-out
invariant-loop-out l = packets_of (take l.out-index l.outs) ≡ []

use Rattle.std.proofs.Common.{◌≡◌, drop}
use Rattle.qn_model.specs.Log.{disk_of}
use Rattle.qn_model.proofs.outputs.Outs.disk.Given as goal

abbrev pub invariant-loop-out : goal.invariant-loop-out
invariant-loop-out l = disk_of l.self ≡ disk_of (drop l.out-index l.out-items)

use Rattle.std.proofs.Common.{◌≡◌, drop}
use Rattle.qn_model.specs.Moments.{has_feed}
use Rattle.qn_model.proofs.outputs.Outs.has_feed.Given as goal

abbrev pub invariant-loop-out : goal.invariant-loop-out
invariant-loop-out l = has_feed l.self ≡ has_feed (drop l.out-index l.out-items)

use Rattle.std.proofs.Common.{◌≡◌, take}
use Rattle.qn_settings.specs.TieOrder.{lowest}
use Rattle.qn_settings.proofs.tie_order.lowest.Given as goal

abbrev pub invariant-loop-place : goal.invariant-loop-place
invariant-loop-place l = l.order ≡ take l.place (lowest l.nodes)

use Rattle.std.proofs.Common.{◌≡◌, take}
use Rattle.qn_settings.specs.TieOrder.{highest}
use Rattle.qn_settings.proofs.tie_order.highest.Given as goal

abbrev pub invariant-loop-place : goal.invariant-loop-place
invariant-loop-place l = l.order ≡ take l.place (highest l.nodes)

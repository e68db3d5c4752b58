-- A plan that is over asks for nothing.
use Rattle.std.proofs.Common.{◌≡◌, None, ap}
use Rattle.qn_base.specs.Plans.{Plan, question}
use Rattle.qn_live.specs.declared.live_end.LiveEnd.{LiveEnd}
use Rattle.qn_live.specs.Machine.{EndsWith}
use Rattle.qn_live.specs.Running.{Ran}

pub over_asks_nothing : (plan : Plan Ran) (end : LiveEnd) → EndsWith plan end → question plan ≡ None
over_asks_nothing plan end over = ap question over.1

use Rattle.std.proofs.Common.{ap}
use Rattle.std.proofs.lemmas.Result.{IfOk-weaker}
use Rattle.qn_replay.specs.BesideReplay.{beside_rules}
use Rattle.qn_replay.proofs.ArbiterTimes.{arbiter_starts_early}
use Rattle.qn_replay.proofs.beside_arbiter.ArbiterWorldTakesEvents.begin.Goals as goal

pub new-requires-clause-valid : goal.new-requires-clause-valid
new-requires-clause-valid c = c.requires.valid

pub new-requires-clause-safe : goal.new-requires-clause-safe
new-requires-clause-safe c = c.requires.safe

pub new-requires-clause-safe_lease : goal.new-requires-clause-safe_lease
new-requires-clause-safe_lease c = c.requires.safe_lease

pub returns-clause-time : goal.returns-clause-time
returns-clause-time c = IfOk-weaker c.new.result _ _ (λ w. arbiter_starts_early w c.args.head.lease) c.new.ensures.first

pub returns-clause-rules : goal.returns-clause-rules
returns-clause-rules c = IfOk-weaker c.new.result _ _ (λ w same. ap beside_rules same) c.new.ensures.lease

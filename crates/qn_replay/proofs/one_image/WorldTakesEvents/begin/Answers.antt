use Rattle.std.proofs.lemmas.Result.{IfOk-weaker}
use Rattle.qn_replay.proofs.Worlds.{starts_early}
use Rattle.qn_replay.proofs.one_image.WorldTakesEvents.begin.Goals as goal

pub new-requires-clause-valid : goal.new-requires-clause-valid
new-requires-clause-valid c = c.requires.valid

pub new-requires-clause-safe : goal.new-requires-clause-safe
new-requires-clause-safe c = c.requires.safe

pub returns-clause-time : goal.returns-clause-time
returns-clause-time c = IfOk-weaker c.new.result _ _ starts_early c.new.ensures.first

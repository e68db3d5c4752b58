use Rattle.qn_live.specs.EndLaws.{no_end_by_call, no_end_by_clock}
use Rattle.qn_live.proofs.laws.law_end_causes.Goals as goal

pub returns : goal.returns
returns c = record { calls = no_end_by_call; clock = no_end_by_clock }

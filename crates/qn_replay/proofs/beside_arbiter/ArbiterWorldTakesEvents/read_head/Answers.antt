use Rattle.qn_replay.proofs.HeadSteps.{good_arbiter_head}
use Rattle.qn_replay.proofs.beside_arbiter.ArbiterWorldTakesEvents.read_head.Goals as goal

pub returns-clause-good : goal.returns-clause-good
returns-clause-good g c =
    good_arbiter_head c.read_arbiter_head.result c.read_arbiter_head.ensures.valid c.read_arbiter_head.ensures.safe c.read_arbiter_head.ensures.safe_lease c.read_arbiter_head.ensures.few_lines

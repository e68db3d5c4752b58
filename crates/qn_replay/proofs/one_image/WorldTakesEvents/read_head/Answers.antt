use Rattle.qn_replay.proofs.Worlds.{good_head}
use Rattle.qn_replay.proofs.one_image.WorldTakesEvents.read_head.Goals as goal

pub returns-clause-good : goal.returns-clause-good
returns-clause-good g c = good_head c.read_head.result c.read_head.ensures.valid c.read_head.ensures.safe c.read_head.ensures.few_lines

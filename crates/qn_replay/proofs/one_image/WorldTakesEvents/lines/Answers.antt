use Rattle.std.proofs.Common.{arith}
use Rattle.qn_replay.proofs.one_image.WorldTakesEvents.lines.Goals as goal

pub returns-clause-few : goal.returns-clause-few
returns-clause-few c = let few = c.requires.few_lines in omega (arith, few)

use Rattle.std.proofs.Common.{arith}
use Rattle.qn_replay.proofs.beside_arbiter.ArbiterWorldTakesEvents.lines.Goals as goal

pub returns-clause-few : goal.returns-clause-few
returns-clause-few c = let few = c.requires.few_lines in omega (arith, few)

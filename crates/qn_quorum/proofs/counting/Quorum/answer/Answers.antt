use Rattle.std.proofs.Common.{arith, ◌∙◌}
use Rattle.qn_quorum.proofs.EntryByEntry.{count_stands}
use Rattle.qn_quorum.proofs.counting.Quorum.answer.Goals as goal

pub returns : goal.returns
returns c = λ s votes stands. c.count.ensures ∙ count_stands c.args.self.now s votes c.args.tick (omega arith) stands

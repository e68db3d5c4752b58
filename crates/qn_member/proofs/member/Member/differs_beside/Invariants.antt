use Rattle.std.proofs.Common.{◌≡◌}
use Rattle.qn_member.specs.Maker.{differs_still, with_ranks}
use Rattle.qn_member.proofs.member.Member.differs_beside.Given as goal

abbrev pub invariant-loop-rank : goal.invariant-loop-rank
invariant-loop-rank l = l.differs ≡ with_ranks (differs_still l.self l.company l.view) l.rank l.self.differs

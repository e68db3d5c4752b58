use Rattle.std.proofs.Common.{◌≡◌}
use Rattle.qn_member.specs.Maker.{differs_at, with_ranks}
use Rattle.qn_member.proofs.member.Member.differs_after.Given as goal

abbrev pub invariant-loop-rank : goal.invariant-loop-rank
invariant-loop-rank l = l.differs ≡ with_ranks (differs_at l.tick l.self l.company) l.rank l.self.differs

use Rattle.std.proofs.Common.{◌≡◌}
use Rattle.qn_member.specs.Naming.{is_able_node}
use Rattle.qn_member.specs.Maker.{ranks_that}
use Rattle.qn_member.proofs.naming.NamingMember.able_ones.Given as goal

abbrev pub invariant-loop-rank : goal.invariant-loop-rank
invariant-loop-rank l = l.found.0 ≡ ranks_that (is_able_node l.self) l.rank

use Rattle.std.proofs.Common.{◌≡◌}
use Rattle.qn_member.specs.Naming.{is_sure_in}
use Rattle.qn_member.specs.Maker.{ranks_that}
use Rattle.qn_member.proofs.naming.NamingMember.sure_ones.Given as goal

abbrev pub invariant-loop-rank : goal.invariant-loop-rank
invariant-loop-rank l = l.found.0 ≡ ranks_that (is_sure_in l.self l.nodes) l.rank

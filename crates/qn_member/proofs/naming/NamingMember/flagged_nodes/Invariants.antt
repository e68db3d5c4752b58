use Rattle.std.proofs.Common.{◌≡◌}
use Rattle.qn_member.specs.Naming.{is_flagged}
use Rattle.qn_member.specs.Maker.{ranks_that}
use Rattle.qn_member.proofs.naming.NamingMember.flagged_nodes.Given as goal

abbrev pub invariant-loop-rank : goal.invariant-loop-rank
invariant-loop-rank l = l.found.0 ≡ ranks_that (is_flagged l.self l.visible l.bit) l.rank

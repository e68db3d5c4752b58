use Rattle.std.proofs.Common.{◌≡◌}
use Rattle.qn_member.specs.NamingViews.{is_apart}
use Rattle.qn_member.specs.Maker.{ranks_that}
use Rattle.qn_member.proofs.naming.NamingMember.apart_nodes.Given as goal

abbrev pub invariant-loop-rank : goal.invariant-loop-rank
invariant-loop-rank l = l.found.0 ≡ ranks_that (is_apart l.facts l.company) l.rank

use Rattle.std.proofs.Common.{◌≡◌}
use Rattle.qn_member.specs.Maker.{may_lead, ranks_that}
use Rattle.qn_member.proofs.member.Member.able_nodes.Given as goal

abbrev pub invariant-loop-rank : goal.invariant-loop-rank
invariant-loop-rank l = l.found.0 ≡ ranks_that (may_lead l.self l.visible) l.rank

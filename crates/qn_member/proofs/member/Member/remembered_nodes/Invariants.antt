use Rattle.std.proofs.Common.{◌≡◌}
use Rattle.qn_member.specs.Maker.{is_forgotten_beside, ranks_that}
use Rattle.qn_member.proofs.member.Member.remembered_nodes.Given as goal

abbrev pub invariant-loop-rank : goal.invariant-loop-rank
invariant-loop-rank l = l.found.0 ≡ ranks_that (is_forgotten_beside l.self l.from.0) l.rank

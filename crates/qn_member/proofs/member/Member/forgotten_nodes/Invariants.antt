use Rattle.std.proofs.Common.{◌≡◌}
use Rattle.qn_member.specs.Maker.{is_forgotten, ranks_that}
use Rattle.qn_member.proofs.member.Member.forgotten_nodes.Given as goal

abbrev pub invariant-loop-rank : goal.invariant-loop-rank
invariant-loop-rank l = l.found.0 ≡ ranks_that (is_forgotten l.self l.visible) l.rank

use Rattle.std.proofs.Common.{◌≡◌}
use Rattle.qn_member.specs.Announcing.{is_other_in}
use Rattle.qn_member.specs.Maker.{ranks_that}
use Rattle.qn_member.proofs.member.Member.others_in.Given as goal

abbrev pub invariant-loop-rank : goal.invariant-loop-rank
invariant-loop-rank l = l.others.0 ≡ ranks_that (is_other_in l.self l.members) l.rank

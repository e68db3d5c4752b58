use Rattle.std.proofs.Common.{◌≡◌}
use Rattle.qn_member.specs.Naming.{is_met_holder}
use Rattle.qn_member.specs.Maker.{ranks_that}
use Rattle.qn_member.proofs.naming.NamingMember.met_holders.Given as goal

abbrev pub invariant-loop-other : goal.invariant-loop-other
invariant-loop-other l = l.found.0 ≡ ranks_that (is_met_holder l.facts l.fn.rank.0) l.other

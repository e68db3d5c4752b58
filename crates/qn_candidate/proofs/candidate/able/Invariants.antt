use Rattle.std.proofs.Common.{◌≡◌, ◌&&◌, ℕ, ◌<◌}
use Rattle.std.specs.Prelude.{nat_lt}
use Rattle.qn_base.specs.Members.{is_member}
use Rattle.qn_candidate.specs.Candidate.{can}
use Rattle.qn_candidate.proofs.candidate.able.Given as goal

abbrev pub invariant-loop-rank : goal.invariant-loop-rank
invariant-loop-rank l = (j : ℕ) → j < 32 → is_member l.found j ≡ (nat_lt j l.rank && can l.facts l.members j)

use Rattle.std.proofs.Common.{◌≡◌, ℕ, ◌<◌, false}
use Rattle.qn_candidate.specs.Candidate.{is_unmet}
use Rattle.qn_candidate.proofs.candidate.hears_all.Given as goal

abbrev pub invariant-loop-other : goal.invariant-loop-other
invariant-loop-other l = (j : ℕ) → j < l.other → is_unmet l.facts l.fn.members l.rank.0 j ≡ false

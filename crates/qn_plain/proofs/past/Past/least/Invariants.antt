use Rattle.std.proofs.Common.{◌≡◌, ℕ, ◌<◌, false}
use Rattle.qn_plain.specs.Sought.{is_sought}
use Rattle.qn_plain.proofs.past.Past.least.Given as goal

abbrev pub invariant-loop-rank : goal.invariant-loop-rank
invariant-loop-rank l = (k : ℕ) → k < l.rank → is_sought l.sought l.me.0 l.tick l.self k ≡ false

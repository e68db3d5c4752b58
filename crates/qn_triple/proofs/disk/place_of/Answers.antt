use Rattle.std.proofs.Common.{◌-◌, ◌<◌, ◌≤◌, subst, sym}
use Rattle.qn_triple.proofs.DiskSteps.{place_below}
use Rattle.qn_triple.proofs.RuleSteps.{image_some}
use Rattle.qn_triple.proofs.disk.place_of.Goals as goal

pub overflow_sub-result : goal.overflow_sub-result
overflow_sub-result c = subst (λ n. 1 ≤ n) (sym c.from.ensures) (image_some c.args.image c.requires)

pub returns-clause-below : goal.returns-clause-below
returns-clause-below c = subst (λ n. n - 1 < 3) (sym c.from.ensures) (place_below c.args.image c.requires)

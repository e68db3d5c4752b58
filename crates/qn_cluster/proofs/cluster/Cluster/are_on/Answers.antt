use Rattle.std.proofs.Common.{sym, ◌∙◌}
use Rattle.qn_cluster.specs.Tests.{on_at}
use Rattle.qn_cluster.proofs.RuleSteps.{all_of_more, one_of_all_fails}
use Rattle.qn_cluster.proofs.cluster.Cluster.are_on.Goals as goal

pub loop-place-preserved : goal.loop-place-preserved
loop-place-preserved c =
    all_of_more (λ clock. on_at c.args.self.now clock.0.0) c.args.clocks.now c.loop-place.place c.get.result _ c.get.ensures
    (sym c.is_on.ensures.seat ∙ c.if-not-is_on.false) c.loop-place.invariant

pub returns-then-not-is_on : goal.returns-then-not-is_on
returns-then-not-is_on c =
    one_of_all_fails (λ clock. on_at c.args.self.now clock.0.0) c.args.clocks.now c.loop-place.place c.get.result _ c.get.ensures
    (sym c.is_on.ensures.seat ∙ c.if-not-is_on.true) c.loop-place.invariant

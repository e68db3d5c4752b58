use Rattle.std.proofs.Common.{◌∙◌, ap}
use Rattle.qn_model.specs.Rules.{may_feed, unless}
use Rattle.qn_cluster.specs.Tests.{decided_lately}
use Rattle.qn_cluster.proofs.RuleSteps.{feed_rule}
use Rattle.qn_cluster.proofs.cluster.Cluster.refuses_feed.Goals as goal

pub returns : goal.returns
returns c d is =
    let seat = c.seat.result.now in
    c.unless_running.ensures d (unless (may_feed c.args.self.now.settings c.args.timing.now c.args.i.0 d) 9) is
    (λ on. c.unless.ensures
    ∙ ap (λ b. unless b 9)
    (c.may_feed.ensures
    ∙ (ap (λ w. decided_lately w.time c.args.timing.now.feed_delay seat.decided) c.self.view_is
    ∙ feed_rule c.args.self.now c.args.timing.now d c.args.i.0 seat is c.seat.ensures on)))

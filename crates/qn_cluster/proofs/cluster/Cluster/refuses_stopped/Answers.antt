use Rattle.std.proofs.Common.{◌∙◌, ap}
use Rattle.qn_model.specs.Rules.{may_be_stopped, unless}
use Rattle.qn_cluster.proofs.RuleSteps.{stop_rule}
use Rattle.qn_cluster.proofs.cluster.Cluster.refuses_stopped.Goals as goal

pub returns : goal.returns
returns c d is =
    c.unless_running.ensures d (unless (may_be_stopped c.args.self.now.settings c.args.i.0 d) 5) is
    (λ on. c.unless.ensures ∙ ap (λ due. unless due 5) (stop_rule c.args.self.now d c.args.i.0 c.seat.result.now is c.seat.ensures on))

use Rattle.std.proofs.Common.{◌∙◌, ap}
use Rattle.std.specs.Option.{option_or}
use Rattle.qn_cluster.proofs.RuleSteps.{running_rule}
use Rattle.qn_cluster.proofs.cluster.Cluster.unless_running.Goals as goal

pub returns : goal.returns
returns c d theirs is same =
    c.or.ensures ∙ (ap (λ first. option_or first c.args.other) c.unless.ensures
    ∙ running_rule c.args.self.now d c.args.i.0 c.seat.result.now c.args.other theirs is c.seat.ensures same)

use Rattle.std.proofs.Common.{◌∙◌, ap}
use Rattle.qn_model.specs.Rules.{may_deliver, unless}
use Rattle.qn_cluster.proofs.cluster.Cluster.refuses_deliver.Goals as goal

pub returns : goal.returns
returns c d is =
    c.unless_running.ensures d (unless (may_deliver c.args.self.now.settings c.args.i.0 c.args.number d) 8) is
    (λ on. c.unless.ensures ∙ ap (λ sent. unless sent 8) (c.may_deliver.ensures d is))

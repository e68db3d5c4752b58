use Rattle.std.proofs.Common.{◌∙◌, ap}
use Rattle.qn_cluster.specs.Holders.{holders_among}
use Rattle.qn_cluster.proofs.Holders.{holders_for}
use Rattle.qn_cluster.proofs.cluster.Cluster.holders.Goals as goal

pub returns : goal.returns
returns c = λ d is. c.holders.ensures ∙ (ap (λ w. holders_among w.seats) c.self.view_is ∙ holders_for c.args.self.now d is)

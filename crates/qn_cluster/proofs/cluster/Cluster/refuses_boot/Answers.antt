use Rattle.std.proofs.Common.{◌∙◌, ap, not}
use Rattle.qn_model.specs.Rules.{unless}
use Rattle.qn_cluster.proofs.cluster.Cluster.refuses_boot.Goals as goal

pub returns : goal.returns
returns c d is = c.unless.ensures ∙ ap (λ on. unless (not on) 2) (is.nodes c.args.i.0 c.seat.result.now c.seat.ensures).runs

use Rattle.qn_cluster.proofs.cluster.Cluster.is_on.Goals as goal

pub returns-clause-exact : goal.returns-clause-exact
returns-clause-exact c d is = (is.nodes c.args.i.0 c.seat.result.now c.seat.ensures).runs

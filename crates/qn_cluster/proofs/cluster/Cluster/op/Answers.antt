use Rattle.qn_cluster.proofs.cluster.Cluster.op.Goals as goal

pub returns-clause-exact : goal.returns-clause-exact
returns-clause-exact c = λ d is on. ((is.nodes c.args.i.0 c.seat.result.now c.seat.ensures).running on).ops

pub returns-clause-within : goal.returns-clause-within
returns-clause-within c = λ d is. is.targets c.args.i.0 c.seat.result.now c.seat.ensures

use Rattle.qn_live.proofs.run.NodeRun.operation.Goals as goal

pub returns-in-Act : goal.returns-in-Act
returns-in-Act c = rw (c.in-Act.is, c.get.ensures) c.operation_in.ensures

use Rattle.qn_live.proofs.running.run_node.Goals as goal

pub returns : goal.returns
returns g c = let ran = c.run_on.ensures in record { did = (ran.log, record { calls = ran.calls; made = ran.made; follows = ran.follows }) }

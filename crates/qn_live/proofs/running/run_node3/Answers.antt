use Rattle.qn_live.proofs.Halted.{halted_run}
use Rattle.qn_live.proofs.running.run_node3.Goals as goal

pub returns : goal.returns
returns g c =
    let ran = c.run_on.ensures in
    let did : _ = record { calls = ran.calls; made = ran.made; follows = ran.follows } in
    record { did = (ran.log, did); halted = halted_run c.args.settings.now c.args.me.0 c.args.clean c.args.leave_at c.args.polls c.args.turns _ _ did }

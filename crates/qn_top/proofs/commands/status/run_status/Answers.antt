use Rattle.std.proofs.Common.{arith}
use Rattle.qn_commands.specs.Seen.{source}
use Rattle.qn_top.proofs.PlayedEnds.{states}
use Rattle.qn_top.proofs.Stated.{fault_stated, world_stated}
use Rattle.qn_top.proofs.commands.status.run_status.Goals as goal

pub returns-in-Ok : goal.returns-in-Ok
returns-in-Ok g c = λ env.
    states c.law_ending.ensures
    (record { source = c.in-Ok.ensures.source_faults; sink = c.write_status.ensures.sink_faults; env = omega arith }) c.args.form
    (world_stated (source g.I.Source.left g.I.Source.faults c.args.input.now) (source g.I.Source.left g.I.Source.faults c.last_world.new.input)
    _ _ env _ c.args.form c.in-Ok.world c.law_ending.ensures c.in-Ok.ensures.reaches c.write_status.ensures.states)

pub returns-in-Err : goal.returns-in-Err
returns-in-Err g c = λ env.
    states c.law_ending.ensures
    (record { source = c.in-Err.ensures.source_faults; sink = c.finish_replay.ensures.sink_faults; env = omega arith }) c.args.form
    (fault_stated (source g.I.Source.left g.I.Source.faults c.args.input.now) (source g.I.Source.left g.I.Source.faults c.last_world.new.input)
    _ _ env _ c.args.form c.in-Err.end c.in-Err.ensures.reaches c.finish_replay.ensures.says)

use Rattle.std.proofs.Common.{refl, arith}
use Rattle.qn_commands.specs.Seen.{source}
use Rattle.qn_running.proofs.NodeRuns.{refuses_settings, runs_node}
use Rattle.qn_running.proofs.commands.node.node.Goals as goal

pub returns-in-Ok : goal.returns-in-Ok
returns-in-Ok g c =
    let works = c.open_and_run.ensures.works (source g.I.Source.left g.I.Source.faults c.args.input.now) in
    runs_node c.args.images c.args.words.now _ _ _
    (record { source = c.in-Ok.ensures.source_faults; sink = c.open_and_run.ensures.sink_faults; env = c.open_and_run.ensures.env_faults })
    c.open_and_run.ensures.write_fault c.in-Ok.text.polls c.in-Ok.text.settings
    (c.law_node_ends.ensures c.args.images c.args.words.now c.in-Ok.text.polls c.in-Ok.text.settings) c.in-Ok.ensures.good
    (record { calls = works.calls; made = works.made; performs = works.performs })
    c.open_and_run.ensures.outcomes c.open_and_run.ensures.unopened

pub returns-in-Err : goal.returns-in-Err
returns-in-Err g c =
    refuses_settings c.args.images c.args.words.now _ _ _
    (record { source = c.in-Err.ensures.source_faults; sink = c.refuse.ensures.sink_faults; env = omega arith })
    c.refuse.ensures.write_fault c.in-Err.fault c.in-Err.ensures.bad refl
    c.refuse.ensures.refuses c.refuse.ensures.own c.in-Err.ensures.status c.in-Err.ensures.read_fault

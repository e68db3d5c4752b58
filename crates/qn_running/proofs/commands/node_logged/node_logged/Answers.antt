use Rattle.std.proofs.Common.{refl, arith}
use Rattle.qn_commands.specs.Seen.{outside, seen, sink, source}
use Rattle.qn_running.proofs.NodeLogging.{logs_no_settings, logs_node, with_input}
use Rattle.qn_running.proofs.commands.node_logged.node_logged.Goals as goal

pub returns-in-Ok : goal.returns-in-Ok
returns-in-Ok g c =
    let before = seen (source g.I.Source.left g.I.Source.faults c.args.input.now) (sink g.O.Sink.written g.O.Sink.faults c.args.out.now)
    (outside g.E.Env.calls g.E.Env.faults c.args.env.now) in
    let after = seen (source g.I.Source.left g.I.Source.faults c.read_node_text.new.input) (sink g.O.Sink.written g.O.Sink.faults c.open_and_record.new.out)
    (outside g.E.Env.calls g.E.Env.faults c.open_and_record.new.env) in
    logs_node c.args.images c.args.words.now before after _
    (record { source = c.in-Ok.ensures.source_faults; sink = c.open_and_record.ensures.sink_faults; env = c.open_and_record.ensures.env_faults })
    c.open_and_record.ensures.write_fault c.in-Ok.text.polls c.in-Ok.text.settings
    (c.law_node_ends.ensures c.args.images c.args.words.now c.in-Ok.text.polls c.in-Ok.text.settings) c.in-Ok.ensures.good
    (with_input c.args.images c.args.words.now c.in-Ok.text.polls c.in-Ok.text.settings (source g.I.Source.left g.I.Source.faults c.read_node_text.new.input)
    (c.open_and_record.ensures.works (source g.I.Source.left g.I.Source.faults c.args.input.now)))
    c.open_and_record.ensures.outcomes c.open_and_record.ensures.unopened

pub returns-in-Err : goal.returns-in-Err
returns-in-Err g c =
    logs_no_settings c.args.images c.args.words.now _ _ _
    (record { source = c.in-Err.ensures.source_faults; sink = c.refuse.ensures.sink_faults; env = omega arith })
    c.refuse.ensures.write_fault c.in-Err.fault c.in-Err.ensures.bad refl
    c.refuse.ensures.refuses c.refuse.ensures.own c.in-Err.ensures.status c.in-Err.ensures.read_fault

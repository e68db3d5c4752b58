use Rattle.qn_commands.specs.Seen.{outside, sink}
use Rattle.qn_running.proofs.NodeLogging.{works_cut, works_logged}
use Rattle.qn_running.proofs.commands.node_logged.run_and_finish.Goals as goal

pub returns-then-not-whole-clause-works : goal.returns-then-not-whole-clause-works
returns-then-not-whole-clause-works g c = λ input first opens some.
    works_cut c.args.images c.args.words.now c.args.text.now.polls c.args.text.now.settings c.args.rank.0 input (sink g.O.Sink.written g.O.Sink.faults c.args.out.now)
    (sink g.O.Sink.written g.O.Sink.faults c.run_and_record-end.new.out) (sink g.O.Sink.written g.O.Sink.faults c.run_and_record-end.new.out) first
    (outside g.E.Env.calls g.E.Env.faults c.args.env.now) (outside g.E.Env.calls g.E.Env.faults c.run_and_record-end.new.env)
    c.run_and_record-end.result.0 some opens c.run_and_record-end.result.1 c.if-not-whole.true c.run_and_record-end.ensures.did

pub returns-clause-works : goal.returns-clause-works
returns-clause-works g c = λ input first opens some.
    works_logged c.args.images c.args.words.now c.args.text.now.polls c.args.text.now.settings c.args.rank.0 input (sink g.O.Sink.written g.O.Sink.faults c.args.out.now)
    (sink g.O.Sink.written g.O.Sink.faults c.run_and_record-end.new.out) (sink g.O.Sink.written g.O.Sink.faults c.finish_node.new.out) first
    (outside g.E.Env.calls g.E.Env.faults c.args.env.now) (outside g.E.Env.calls g.E.Env.faults c.run_and_record-end.new.env)
    c.run_and_record-end.result.0 some opens c.run_and_record-end.result.1 c.if-not-whole.false c.run_and_record-end.ensures.did _
    c.run_and_record-end.ensures.sink_faults c.finish_node.ensures.sink_faults c.finish_node.ensures.says

use Rattle.std.proofs.Common.{rules}
use Rattle.qn_audit.specs.Recording.{log_of}
use Rattle.qn_running.specs.Commands.NodeLogged.{RunsLogged}
use Rattle.qn_commands.specs.Seen.{outside, sink}
use Rattle.qn_running.proofs.NodeLogging.{of_equals, runs_logged}
use Rattle.qn_running.proofs.commands.node_logged.run_and_record.Goals as goal

-- what stood behind the recorder's references is what the caller has once it is gone
pub returns-clause-did : goal.returns-clause-did
returns-clause-did g c =
    let first = c.new-recorder.result in
    let last = c.run_recorded-end.new.recorder in
    of_equals (λ env_before env_after before after.
    RunsLogged c.args.images c.args.words.now c.args.text.now.polls c.args.text.now.settings c.args.rank.0 (sink g.O.Sink.written g.O.Sink.faults before) (sink g.O.Sink.written g.O.Sink.faults after)
    (outside g.E.Env.calls g.E.Env.faults env_before) (outside g.E.Env.calls g.E.Env.faults env_after) c.run_recorded-end.result c.is_whole.result)
    first.env.now c.args.env.now last.env.now _ first.out.now c.args.out.now last.out.now _
    c.new-recorder.ensures.env (search rules) c.new-recorder.ensures.out (search rules)
    (runs_logged c.args.images c.args.words.now c.args.text.now.polls c.args.text.now.settings c.args.rank.0 (outside g.E.Env.calls g.E.Env.faults first.env.now) (outside g.E.Env.calls g.E.Env.faults last.env.now)
    (log_of g.O.Sink.written g.O.Sink.faults first) (log_of g.O.Sink.written g.O.Sink.faults last) c.run_recorded-end.result c.is_whole.result
    c.new-recorder.ensures.whole c.is_whole.ensures c.run_recorded-end.ensures.did.0 c.run_recorded-end.ensures.did.1)

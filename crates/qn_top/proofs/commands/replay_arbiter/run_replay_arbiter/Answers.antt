use Rattle.std.proofs.Common.{None, arith}
use Rattle.qn_commands.specs.Seen.{Outside, seen, sink, source}
use Rattle.qn_commands.specs.Statuses.{code_of}
use Rattle.qn_replay.specs.BesideReplay.{WantsMemory, replay_arbiter_of}
use Rattle.qn_replay.specs.BesideTrace.{IsRunTrace}
use Rattle.qn_top.specs.Traces.{RunsTrace}
use Rattle.qn_top.proofs.PlayedEnds.{writes_beside}
use Rattle.qn_top.proofs.Replayed.{trace_finished, trace_unwritten}
use Rattle.qn_top.proofs.Shown.{shows_trace}
use Rattle.qn_top.proofs.commands.replay_arbiter.run_replay_arbiter.Given.{Over}
use Rattle.qn_top.proofs.commands.replay_arbiter.run_replay_arbiter.Goals as goal

-- the outside of a node, which shows nothing here
abbrev none : Outside
none = record { calls = None; faults = 0 }

unwritten : (g : Over) (c : goal.In-WriteFault g) (env : Outside)
    → RunsTrace replay_arbiter_of WantsMemory (seen (source g.I.Source.left g.I.Source.faults c.args.input.now) (sink g.O.Sink.written g.O.Sink.faults c.args.out.now) env)
    (seen (source g.I.Source.left g.I.Source.faults c.replay_arbiter.new.input) (sink g.O.Sink.written g.O.Sink.faults c.replay_arbiter.new.out) env) 7
unwritten g c env =
    trace_unwritten replay_arbiter_of (source g.I.Source.left g.I.Source.faults c.args.input.now) (source g.I.Source.left g.I.Source.faults c.replay_arbiter.new.input)
    (sink g.O.Sink.written g.O.Sink.faults c.args.out.now) (sink g.O.Sink.written g.O.Sink.faults c.replay_arbiter.new.out) env
    c.in-WriteFault.ensures.sink_faults c.in-WriteFault.ensures.replays

pub returns-in-WriteFault : goal.returns-in-WriteFault
returns-in-WriteFault g c = record {
  replays = λ env.
      writes_beside replay_arbiter_of
      (record { source = c.in-WriteFault.ensures.source_faults; sink = c.in-WriteFault.ensures.sink_faults; env = omega arith })
      c.law_arbiter_ending.ensures
      (unwritten g c env);
  one_holder = shows_trace replay_arbiter_of IsRunTrace c.law_arbiter_traces.ensures (unwritten g c none);
}

finished : (g : Over) (c : goal.After-finish_replay g) (env : Outside)
    → RunsTrace replay_arbiter_of WantsMemory (seen (source g.I.Source.left g.I.Source.faults c.args.input.now) (sink g.O.Sink.written g.O.Sink.faults c.args.out.now) env)
    (seen (source g.I.Source.left g.I.Source.faults c.replay_arbiter.new.input) (sink g.O.Sink.written g.O.Sink.faults c.finish_replay.new.out) env)
    (code_of c.finish_replay.result)
finished g c env =
    trace_finished replay_arbiter_of (source g.I.Source.left g.I.Source.faults c.args.input.now) (source g.I.Source.left g.I.Source.faults c.replay_arbiter.new.input)
    (sink g.O.Sink.written g.O.Sink.faults c.args.out.now) (sink g.O.Sink.written g.O.Sink.faults c.finish_replay.new.out) env
    (sink g.O.Sink.written g.O.Sink.faults c.replay_arbiter.new.out) _ c.replay_arbiter.result c.in_default.not-WriteFault c.replay_arbiter.ensures.sink_faults
    c.finish_replay.ensures.sink_faults c.replay_arbiter.ensures.replays c.finish_replay.ensures.says

pub returns-in_default : goal.returns-in_default
returns-in_default g c = record {
  replays = λ env.
      writes_beside replay_arbiter_of
      (record { source = c.replay_arbiter.ensures.source_faults; sink = omega arith; env = omega arith })
      c.law_arbiter_ending.ensures
      (finished g c env);
  one_holder = shows_trace replay_arbiter_of IsRunTrace c.law_arbiter_traces.ensures (finished g c none);
}

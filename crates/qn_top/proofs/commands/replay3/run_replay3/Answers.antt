use Rattle.std.proofs.Common.{None, arith}
use Rattle.qn_commands.specs.Seen.{Outside, seen, sink, source}
use Rattle.qn_commands.specs.Statuses.{code_of}
use Rattle.qn_replay.specs.TripleReplay.{WantsMemory, replay3_of}
use Rattle.qn_replay.specs.TripleTrace.{IsRunTrace}
use Rattle.qn_top.specs.Traces.{RunsTrace}
use Rattle.qn_top.proofs.PlayedEnds.{writes_trace}
use Rattle.qn_top.proofs.Replayed.{trace_finished, trace_unwritten}
use Rattle.qn_top.proofs.Shown.{shows_trace}
use Rattle.qn_top.proofs.commands.replay3.run_replay3.Given.{Over}
use Rattle.qn_top.proofs.commands.replay3.run_replay3.Goals as goal

-- the outside of a node, which shows nothing here
abbrev none : Outside
none = record { calls = None; faults = 0 }

unwritten : (g : Over) (c : goal.In-WriteFault g) (env : Outside)
    → RunsTrace replay3_of WantsMemory (seen (source g.I.Source.left g.I.Source.faults c.args.input.now) (sink g.O.Sink.written g.O.Sink.faults c.args.out.now) env)
    (seen (source g.I.Source.left g.I.Source.faults c.replay3.new.input) (sink g.O.Sink.written g.O.Sink.faults c.replay3.new.out) env) 7
unwritten g c env =
    trace_unwritten replay3_of (source g.I.Source.left g.I.Source.faults c.args.input.now) (source g.I.Source.left g.I.Source.faults c.replay3.new.input)
    (sink g.O.Sink.written g.O.Sink.faults c.args.out.now) (sink g.O.Sink.written g.O.Sink.faults c.replay3.new.out) env
    c.in-WriteFault.ensures.sink_faults c.in-WriteFault.ensures.replays

pub returns-in-WriteFault : goal.returns-in-WriteFault
returns-in-WriteFault g c = record {
  replays = λ env.
      writes_trace replay3_of
      (record { source = c.in-WriteFault.ensures.source_faults; sink = c.in-WriteFault.ensures.sink_faults; env = omega arith })
      c.law_triple_ending.ensures
      (unwritten g c env);
  one_holder = shows_trace replay3_of IsRunTrace c.law_triple_one_holder.ensures (unwritten g c none);
}

finished : (g : Over) (c : goal.After-finish_replay g) (env : Outside)
    → RunsTrace replay3_of WantsMemory (seen (source g.I.Source.left g.I.Source.faults c.args.input.now) (sink g.O.Sink.written g.O.Sink.faults c.args.out.now) env)
    (seen (source g.I.Source.left g.I.Source.faults c.replay3.new.input) (sink g.O.Sink.written g.O.Sink.faults c.finish_replay.new.out) env)
    (code_of c.finish_replay.result)
finished g c env =
    trace_finished replay3_of (source g.I.Source.left g.I.Source.faults c.args.input.now) (source g.I.Source.left g.I.Source.faults c.replay3.new.input)
    (sink g.O.Sink.written g.O.Sink.faults c.args.out.now) (sink g.O.Sink.written g.O.Sink.faults c.finish_replay.new.out) env
    (sink g.O.Sink.written g.O.Sink.faults c.replay3.new.out) _ c.replay3.result c.in_default.not-WriteFault c.replay3.ensures.sink_faults
    c.finish_replay.ensures.sink_faults c.replay3.ensures.replays c.finish_replay.ensures.says

pub returns-in_default : goal.returns-in_default
returns-in_default g c = record {
  replays = λ env.
      writes_trace replay3_of
      (record { source = c.replay3.ensures.source_faults; sink = omega arith; env = omega arith })
      c.law_triple_ending.ensures
      (finished g c env);
  one_holder = shows_trace replay3_of IsRunTrace c.law_triple_one_holder.ensures (finished g c none);
}

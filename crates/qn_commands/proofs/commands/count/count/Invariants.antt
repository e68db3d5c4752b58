use Rattle.std.proofs.Common.{◌-◌, ◌≤◌}
use Rattle.qn_commands.specs.CountTurns.{HasCounted, coming, counting}
use Rattle.qn_commands.specs.Seen.{sink, source}
use Rattle.qn_commands.proofs.commands.count.count.Given as goal

-- what was taken and given out so far
abbrev pub invariant-turns : goal.invariant-turns
invariant-turns g l =
    HasCounted (g.I.Source.left l.fn.input) (g.O.Sink.written l.fn.out)
    (coming l.run.pieces (source g.I.Source.left g.I.Source.faults l.input))
    (counting l.run.counter l.run.output (sink g.O.Sink.written g.O.Sink.faults l.out))
    × (g.I.Source.faults l.fn.input ≤ g.I.Source.faults l.input)
    × (g.O.Sink.faults l.fn.out ≤ g.O.Sink.faults l.out)

abbrev pub decreases-turns : goal.decreases-turns
decreases-turns g l = 200000 - l.run.counter.lines

use Rattle.std.proofs.Common.{◌-◌, ◌≤◌}
use Rattle.qn_commands.specs.Commands.List.{ranks_work}
use Rattle.qn_commands.specs.Seen.{Input, outside, sink}
use Rattle.qn_commands.specs.WorkSteps.{LeadsTo}
use Rattle.qn_commands.proofs.commands.list.list_ranks.Given as goal

abbrev pub invariant-ranks : goal.invariant-ranks
invariant-ranks g l =
    ((input : Input) → LeadsTo input (sink g.O.Sink.written g.O.Sink.faults l.fn.out) (sink g.O.Sink.written g.O.Sink.faults l.out)
    (outside g.E.Env.calls g.E.Env.faults l.fn.env) (outside g.E.Env.calls g.E.Env.faults l.env)
    (ranks_work l.version 0 l.nodes) (ranks_work l.version l.rank (l.nodes - l.rank)))
    × (g.E.Env.faults l.fn.env ≤ g.E.Env.faults l.env)
    × (g.O.Sink.faults l.fn.out ≤ g.O.Sink.faults l.out)

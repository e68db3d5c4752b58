use Rattle.std.proofs.Common.{arith}
use Rattle.qn_commands.proofs.CountEnds.{counts}
use Rattle.qn_commands.proofs.Counted.{counted_more, counted_none, run_ends}
use Rattle.qn_commands.proofs.commands.count.count.Goals as goal

pub returns-in-Some : goal.returns-in-Some
returns-in-Some g c = λ env.
    counts
    (run_ends _ _ _ env _ _ _ _ c.turns.invariant.0 c.turns.invariant.1 c.turn.ensures.source_faults c.turns.invariant.2 c.turn.ensures.sink_faults
    c.turn.ensures.within c.in-Some.ensures.turns)
    (record { source = omega arith; sink = omega arith; env = omega arith })

pub turns-init : goal.turns-init
turns-init g c = (counted_none _ _ c.new-run.ensures.counter c.new-run.ensures.pieces c.new-run.ensures.output, omega arith, omega arith)

pub turns-preserved : goal.turns-preserved
turns-preserved g c = (
  counted_more c.turns.invariant.0 _ _ c.in_default.ensures.turns,
  omega arith,
  omega arith,
)

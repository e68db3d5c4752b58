use Rattle.std.proofs.Common.{ap, sym}
use Rattle.std.specs.Io.KnownBytes.{prepend_known}
use Rattle.qn_commands.specs.CountTurns.{counting}
use Rattle.qn_commands.specs.Seen.{sink}
use Rattle.qn_commands.proofs.Turned.{turn_behind, turn_line, turn_same, turn_unwritten, waiting_short, waiting_taken}
use Rattle.qn_commands.proofs.commands.count.Run.turn.Goals as goal

pub returns-in-Some-clause-turns : goal.returns-in-Some-clause-turns
returns-in-Some-clause-turns g c =
    turn_line _ _ _ c.judge_waiting.result _ _ c.in-Some.ensures.unended
    (waiting_short _ c.args.self.now.pieces c.in-Some.ensures.inside c.first_line.ensures.within)
    (waiting_taken _ _ _ c.judge_waiting.new.self.pieces _ c.in-Some.ensures.line c.judge_waiting.ensures.pieces)
    c.judge_waiting.ensures.judges

pub returns-in_default-flush-clause-turns : goal.returns-in_default-flush-clause-turns
returns-in_default-flush-clause-turns g c =
    turn_unwritten _ _ _ _ (ap (λ p. prepend_known p (g.I.Source.left c.args.input.now)) (sym c.flush.ensures.pieces))
    c.in_default-flush.ensures.cause c.in_default-flush.ensures.prefix

pub returns-clause-turns : goal.returns-clause-turns
returns-clause-turns g c =
    turn_behind c.next_line.result _ _ _
    (counting c.flush.new.self.counter c.flush.new.self.output (sink g.O.Sink.written g.O.Sink.faults c.flush.new.out)) _
    (sym c.flush.ensures.counter) c.in-Ok.ensures.given c.flush.ensures.never_falls c.next_line.ensures.sink_faults
    (turn_same c.next_line.result _ _ _ _ _ _ c.flush.ensures.pieces c.next_line.ensures.turns)

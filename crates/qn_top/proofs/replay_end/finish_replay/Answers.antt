use Rattle.std.proofs.Common.{sym, subst}
use Rattle.qn_sched.specs.declared.replay_end.ReplayEnd.{ReplayEnd}
use Rattle.qn_commands.specs.Endings.{Says}
use Rattle.qn_commands.specs.Seen.{sink}
use Rattle.qn_commands.specs.Statuses.{code_of}
use Rattle.qn_top.specs.ReplayEnds.{end_outcome}
use Rattle.qn_top.proofs.replay_end.finish_replay.Goals as goal

pub returns-in-BadSchedule-clause-says : goal.returns-in-BadSchedule-clause-says
returns-in-BadSchedule-clause-says g c =
    subst (λ (e : ReplayEnd). Says (end_outcome e).text (end_outcome e).status (sink g.O.Sink.written g.O.Sink.faults c.args.out.now)
    (sink g.O.Sink.written g.O.Sink.faults c.refuse-in-BadSchedule.new.out) (code_of c.refuse-in-BadSchedule.result))
    (sym c.in-BadSchedule.is) c.refuse-in-BadSchedule.ensures.refuses

pub returns-in-NotAllowed-clause-says : goal.returns-in-NotAllowed-clause-says
returns-in-NotAllowed-clause-says g c =
    subst (λ (e : ReplayEnd). Says (end_outcome e).text (end_outcome e).status (sink g.O.Sink.written g.O.Sink.faults c.args.out.now)
    (sink g.O.Sink.written g.O.Sink.faults c.refuse-in-NotAllowed.new.out) (code_of c.refuse-in-NotAllowed.result))
    (sym c.in-NotAllowed.is) c.refuse-in-NotAllowed.ensures.refuses

pub returns-in-UnsafeTiming-clause-says : goal.returns-in-UnsafeTiming-clause-says
returns-in-UnsafeTiming-clause-says g c =
    subst (λ (e : ReplayEnd). Says (end_outcome e).text (end_outcome e).status (sink g.O.Sink.written g.O.Sink.faults c.args.out.now)
    (sink g.O.Sink.written g.O.Sink.faults c.refuse-in-UnsafeTiming.new.out) (code_of c.refuse-in-UnsafeTiming.result))
    (sym c.in-UnsafeTiming.is) c.refuse-in-UnsafeTiming.ensures.refuses

pub returns-in-UnsafeLease-clause-says : goal.returns-in-UnsafeLease-clause-says
returns-in-UnsafeLease-clause-says g c =
    subst (λ (e : ReplayEnd). Says (end_outcome e).text (end_outcome e).status (sink g.O.Sink.written g.O.Sink.faults c.args.out.now)
    (sink g.O.Sink.written g.O.Sink.faults c.refuse-in-UnsafeLease.new.out) (code_of c.refuse-in-UnsafeLease.result))
    (sym c.in-UnsafeLease.is) c.refuse-in-UnsafeLease.ensures.refuses

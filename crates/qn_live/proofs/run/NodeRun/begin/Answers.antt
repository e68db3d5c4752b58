use Rattle.std.proofs.Common.{sym, ◌∙◌}
use Rattle.qn_live.specs.Machine.{next_of, state_of}
use Rattle.qn_live.proofs.Joining.{turn_late, turn_open, turn_ready}
use Rattle.qn_live.proofs.run.NodeRun.begin.Goals as goal

pub returns-in-Some-clause-runs : goal.returns-in-Some-clause-runs
returns-in-Some-clause-runs c = λ log stands.
    let run = c.args.self.now in
    record {
      log = log;
      stands = stands;
      more = tt;
      is_left =
          turn_ready run.settings run.me.0 run.leave_at run.turn (state_of run log) (next_of run) c.is_to_leave.result (c.is_to_leave.ensures log stands) c.in-Some.entry c.in-Some.waits (sym c.ready.ensures ∙ c.in-Some.is);
    }

pub returns-then-is_late-clause-runs : goal.returns-then-is_late-clause-runs
returns-then-is_late-clause-runs c = λ log stands.
    let run = c.args.self.now in
    record {
      log = log;
      stands = stands;
      more = tt;
      is_left =
          turn_late run.settings run.me.0 run.leave_at run.turn (state_of run log) (next_of run) c.is_to_leave.result (c.is_to_leave.ensures log stands) (sym c.ready.ensures ∙ c.in-None.is) (sym (c.is_late.ensures log stands) ∙ c.if-is_late.true);
    }

pub returns-else-is_late-clause-runs : goal.returns-else-is_late-clause-runs
returns-else-is_late-clause-runs c = λ log stands.
    let run = c.args.self.now in
    record {
      log = log;
      stands = stands;
      more = tt;
      is_left =
          turn_open run.settings run.me.0 run.leave_at run.turn (state_of run log) (next_of run) c.is_to_leave.result (c.is_to_leave.ensures log stands) (sym c.ready.ensures ∙ c.in-None.is) (sym (c.is_late.ensures log stands) ∙ c.if-is_late.false);
    }

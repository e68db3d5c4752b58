use Rattle.std.proofs.Common.{◌+◌, sym, ap, ◌∙◌, arith}
use Rattle.qn_base.specs.Plans.{Ends}
use Rattle.qn_live.specs.Machine.{state_of}
use Rattle.qn_live.proofs.Joining.{run_over, run_more, stands_too}
use Rattle.qn_live.proofs.run.NodeRun.finish.Goals as goal

pub returns-then-self-eq0-clause-runs : goal.returns-then-self-eq0-clause-runs
returns-then-self-eq0-clause-runs c = λ log stands.
    let run = c.args.self.now in
    record {
      log = log;
      stands = stands;
      more = tt;
      is_left =
          run_over run.settings run.me.0 run.leave_at (run.turn + 1) run.after (state_of run log) c.if-self-eq0.true
          ∙ ap (λ end. Ends (record { end = end; log = log })) (sym (c.turns_end.ensures log stands));
    }

pub returns-clause-runs : goal.returns-clause-runs
returns-clause-runs c = λ log stands.
    let run = c.args.self.now in
    stands_too
    (run_more run.settings run.me.0 run.leave_at (run.turn + 1) run.after (state_of run log) (omega (arith, c.if-self-eq0.false)))
    (c.begin.ensures.runs log stands)

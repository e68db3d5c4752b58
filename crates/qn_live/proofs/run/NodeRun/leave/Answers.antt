use Rattle.std.proofs.Common.{sym, ap, ◌∙◌}
use Rattle.qn_base.specs.Plans.{◌>>=◌}
use Rattle.qn_live.specs.Machine.{next_of, state_of}
use Rattle.qn_live.specs.Running.{later}
use Rattle.qn_live.proofs.Joining.{parted_silent, parted_telling, stands_too}
use Rattle.qn_live.proofs.run.NodeRun.leave.Goals as goal

pub returns-in-Some-clause-runs : goal.returns-in-Some-clause-runs
returns-in-Some-clause-runs c = λ log stands.
    let run = c.args.self.now in
    stands_too
    (ap (λ p. p >>= later (next_of run))
    (parted_telling run.settings run.me.0 c.args.end (state_of run log) c.in-Some.view (sym c.farewell.ensures.view ∙ c.in-Some.is) c.in-Some.ensures.clean))
    (c.part.ensures.runs log stands)

pub returns-in-None-clause-runs : goal.returns-in-None-clause-runs
returns-in-None-clause-runs c = λ log stands.
    let run = c.args.self.now in
    record {
      log = log;
      stands = stands;
      more = tt;
      is_left =
          ap (λ p. p >>= later (next_of run))
          (parted_silent run.settings run.me.0 c.args.end (state_of run log) (sym c.farewell.ensures.view ∙ c.in-None.is));
    }

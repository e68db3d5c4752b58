use Rattle.std.proofs.Common.{◌≤◌, length, ap, arith}
use Rattle.qn_base.specs.Plans.{◌>>=◌}
use Rattle.qn_live.specs.Machine.{next_of, state_of}
use Rattle.qn_live.specs.Running.{later}
use Rattle.qn_live.specs.Runs.{settled}
use Rattle.qn_live.proofs.Joining.{outs_over, stands_too}
use Rattle.qn_live.proofs.run.NodeRun.act.Goals as goal

pub returns-else-at-len-clause-runs : goal.returns-else-at-len-clause-runs
returns-else-at-len-clause-runs c = λ log stands ranks.
    let run = c.args.self.now in
    let over : length run.outs ≤ c.args.at = omega (arith, c.if-at-len.false, c.len.ensures.value) in
    stands_too
    (ap
    (λ p. (p >>= settled run.settings run.me.0 run.entry run.outs) >>= later (next_of run))
    (outs_over run.settings run.me.0 (state_of run log) run.outs c.args.at over))
    (c.settle.ensures.runs log stands)

use Rattle.std.proofs.Common.{ap}
use Rattle.qn_arbitrating.proofs.ArbiterRuns.{works_served, works_unopened}
use Rattle.qn_safety.specs.declared.lease.Lease.{Lease}
use Rattle.qn_arbitrating.proofs.command.listen_and_serve.Goals as goal

pub returns-in-Ok-clause-works : goal.returns-in-Ok-clause-works
returns-in-Ok-clause-works g c = λ input.
    works_served c.args.words c.args.device input _ _ _ _ _ _ c.least_lease.result.lease c.run_arbiter-end.result
    c.run_arbiter-end.ensures.did.0 (ap (λ (times : Lease). times.lease) c.least_lease.ensures.times) c.in-Ok.ensures.opened c.run_arbiter-end.ensures.did.1 c.finish_arbiter.ensures.says

pub returns-in-Err-clause-works : goal.returns-in-Err-clause-works
returns-in-Err-clause-works g c = λ input.
    works_unopened c.args.words c.args.device input _ _ _ _ _ c.in-Err.ensures.failed c.refuse.ensures.refuses

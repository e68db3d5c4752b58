use Rattle.std.proofs.Common.{◌≤◌}
use Rattle.qn_base.specs.Plans.{Plan}
use Rattle.qn_live.specs.Running.{Ran}
use Rattle.qn_live.specs.TripleMachine.{Stands, triple_work}
use Rattle.qn_live.proofs.triple_run.TripleRun.pass_over.Given as goal

abbrev pub invariant-images : goal.invariant-images
invariant-images l = record {
  stands : (plan : Plan Ran) → Stands l.fn.self plan → Stands l.self plan;
  work : triple_work l.self ≤ triple_work l.fn.self;
}

abbrev pub decreases-images : goal.decreases-images
decreases-images l = triple_work l.self

use Rattle.qn_base.specs.Plans.{At}
use Rattle.qn_safety.specs.Arbiter.{Memory}
use Rattle.qn_polls.specs.Arbiter.{ArbiterFor}
use Rattle.qn_leases.specs.Serving.{arbiter_plan, turns_plan}
use Rattle.qn_leases.proofs.serving.run_arbiter.Given as goal

abbrev pub invariant-turns : goal.invariant-turns
invariant-turns g l =
    (memory : Memory)
    × ArbiterFor l.arbiter memory
    × At (g.E.Env.faults l.fn.env) (g.E.Env.faults l.env) (g.E.Env.calls l.fn.env) (g.E.Env.calls l.env) (arbiter_plan l.fn.lease l.fn.turns) (turns_plan l.left (record { memory = memory; tick = l.tick }))

abbrev pub decreases-turns : goal.decreases-turns
decreases-turns g l = l.left

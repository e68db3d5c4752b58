use Rattle.std.proofs.Common.{◌-◌}
use Rattle.qn_base.specs.Plans.{At}
use Rattle.qn_image.specs.Plans.{search_plan}
use Rattle.qn_image.proofs.messaging.send.Given as goal

abbrev pub invariant-ranks : goal.invariant-ranks
invariant-ranks g l =
    At (g.E.Env.faults l.fn.env) (g.E.Env.faults l.env) (g.E.Env.calls l.fn.env) (g.E.Env.calls l.env) (search_plan l.id l.message 0 l.nodes) (search_plan l.id l.message l.rank (l.nodes - l.rank))

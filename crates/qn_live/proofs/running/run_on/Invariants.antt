use Rattle.std.specs.Prelude.{List, ◌++◌}
use Rattle.qn_base.specs.declared.calls.Call.{Call}
use Rattle.qn_base.specs.Plans.{Follows, Made, Plan}
use Rattle.qn_live.specs.Images.{IsHeard, RunsAs, images_work, plan_on}
use Rattle.qn_live.specs.Running.{Ran}
use Rattle.qn_live.specs.Sound.{AreRecorded, Shows}
use Rattle.qn_live.proofs.running.run_on.Given as goal

abbrev pub invariant-calls : goal.invariant-calls
invariant-calls g l =
    (calls : List Call)
    × (left : Plan Ran)
    × RunsAs l.run left
    × Made (g.E.Env.faults l.fn.env) (g.E.Env.faults l.env) (g.E.Env.calls l.fn.env) (g.E.Env.calls l.env) calls
    × AreRecorded calls
    × Shows g.E.Env.shows l.fn.env l.env calls
    × Shows (IsHeard g.N.Notices.hears) l.fn.notices l.notices calls
    × ((more : List Call) (value : Ran) → Follows left more value → Follows (plan_on l.fn.images l.settings l.fn.me.0 l.clean l.fn.leave_at l.fn.polls l.turns) (calls ++ more) value)

abbrev pub decreases-calls : goal.decreases-calls
decreases-calls g l = images_work l.run

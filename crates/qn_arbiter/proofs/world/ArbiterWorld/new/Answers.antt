use Rattle.std.proofs.Common.{arith}
use Rattle.qn_arbiter.proofs.ApplySteps.{first_reached}
use Rattle.qn_arbiter.proofs.world.ArbiterWorld.new.Goals as goal

pub invariant_of-result : goal.invariant_of-result
invariant_of-result c =
    let k = c.in_ok-state.state in
    let e = c.in_ok-state.ensures in
    let steps = e.steps in
    let room = e.room in
    (_, first_reached k c.args.lease e.lease e.stands (omega arith))

pub returns-clause-first : goal.returns-clause-first
returns-clause-first c =
    let k = c.in_ok-state.state in
    let e = c.in_ok-state.ensures in
    let steps = e.steps in
    let room = e.room in
    first_reached k c.args.lease e.lease e.stands (omega arith)

-- The loop goes through the plan turn by turn.
use Rattle.std.proofs.Common.{◌-◌, arith}
use Rattle.qn_safety.specs.Arbiter.{fresh_memory}
use Rattle.qn_leases.specs.Serving.{Serving}
use Rattle.qn_leases.proofs.Turning.{began, ran_out, stopped, went_on}
use Rattle.qn_leases.proofs.serving.run_arbiter.Goals as goal

pub turns-init : goal.turns-init
turns-init g c =
    (fresh_memory c.args.lease c.look-tick.result, c.new-arbiter.ensures, began c.args.lease c.args.turns c.look-tick.result c.look-tick.ensures)

pub returns-in-Err : goal.returns-in-Err
returns-in-Err g c =
    let before = c.turns.invariant in
    let st : Serving = record { memory = before.0; tick = c.turns.tick } in
    record { did = (before.0, stopped c.turns.left (c.turns.left - 1) st c.in-Err.end (omega arith) before.2 (c.in-Err.ensures.over before.0 before.1)) }

pub turns-preserved : goal.turns-preserved
turns-preserved g c =
    let before = c.turns.invariant in
    let next = c.in-Ok.ensures.next before.0 before.1 in (
      next.0,
      next.1,
      went_on c.turns.left (c.turns.left - 1) (record { memory = before.0; tick = c.turns.tick }) (record { memory = next.0; tick = c.in-Ok.now }) (omega arith) before.2 next.2,
    )

pub returns : goal.returns
returns g c =
    let before = c.turns.invariant in
    record { did = (before.0, ran_out c.turns.left (record { memory = before.0; tick = c.turns.tick }) (omega arith) before.2) }

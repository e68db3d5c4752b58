-- Each way through a turn is a way through its plan.
use Rattle.std.proofs.Common.{◌≡◌, true, false, nat_lt, arith}
use Rattle.std.proofs.lemmas.Bool.Decides.{nat_tests}
use Rattle.qn_safety.specs.Arbiter.{with_poll}
use Rattle.qn_leases.proofs.Turning.{answered_poll, heard_none, went_back}
use Rattle.qn_leases.proofs.serving.turn.Goals as goal

pub returns-in_default-clause-next : goal.returns-in_default-clause-next
returns-in_default-clause-next g c = λ memory stands.
    (memory, stands, heard_none (record { memory = memory; tick = c.args.last }) c.in_default.ensures.did)

pub returns-then-tick-last-clause-over : goal.returns-then-tick-last-clause-over
returns-then-tick-last-clause-over g c = λ memory stands.
    let back : nat_lt c.look-tick.result c.args.last ≡ true = grind (arith, nat_tests, c.if-tick-last.true) in
    went_back (record { memory = memory; tick = c.args.last }) c.in-Some.poll c.look-tick.result back c.in-Some.ensures.did c.look-tick.ensures

pub returns-clause-next : goal.returns-clause-next
returns-clause-next g c = λ memory stands.
    let on : nat_lt c.look-tick.result c.args.last ≡ false = grind (arith, nat_tests, c.if-tick-last.false) in
    let said = c.answer-agrees.ensures.sends memory stands in (
      with_poll c.look-tick.result c.in-Some.poll memory,
      said.0,
      answered_poll (record { memory = memory; tick = c.args.last }) c.in-Some.poll c.look-tick.result on c.in-Some.ensures.did c.look-tick.ensures said.1,
    )

use Rattle.qn_safety.specs.ArbiterSteps.{hearing}
use Rattle.qn_arbiter.proofs.Clocks.{runs_on}
use Rattle.qn_arbiter.proofs.running.hear.Goals as goal

pub returns-in-Some : goal.returns-in-Some
returns-in-Some c = λ theirs runs.
    runs_on c.args.arbiter.now c.in-Some.running c.hear.new.self theirs (hearing c.args.poll.now) c.in-Some.is c.hear.ensures runs

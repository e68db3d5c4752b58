use Rattle.qn_safety.specs.ArbiterSteps.{advanced_arbiter}
use Rattle.qn_arbiter.proofs.Clocks.{runs_on}
use Rattle.qn_arbiter.proofs.running.advance.Goals as goal

pub returns-in-Some : goal.returns-in-Some
returns-in-Some c = λ theirs runs.
    runs_on c.args.arbiter.now c.in-Some.running c.advance.new.self theirs (advanced_arbiter c.args.hundredths) c.in-Some.is c.advance.ensures runs

use Rattle.std.proofs.Common.{ap, ◌∙◌}
use Rattle.qn_live.specs.Machine.{saying}
use Rattle.qn_live.proofs.Joining.{said_all, stands_too}
use Rattle.qn_live.proofs.run.NodeRun.greet.Goals as goal

pub returns-in-None-clause-runs : goal.returns-in-None-clause-runs
returns-in-None-clause-runs c = λ log stands.
    let run = c.args.self.now in
    stands_too
    (ap (λ sents. saying run log sents) c.in-None.ensures.none ∙ said_all run log)
    (c.finish.ensures.runs log stands)

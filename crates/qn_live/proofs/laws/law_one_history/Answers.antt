use Rattle.qn_live.specs.Runs.{live_plan}
use Rattle.qn_live.proofs.Always.{always_follows}
use Rattle.qn_live.proofs.Histories.{EndsHistory, live_always}
use Rattle.qn_live.proofs.laws.law_one_history.Goals as goal

pub returns : goal.returns
returns c = λ s me clean leave polls turns calls ran follows.
    always_follows (EndsHistory s me) (live_plan s me clean leave polls turns) calls ran (live_always s me clean leave polls turns) follows

use Rattle.qn_live.specs.Runs.{live_plan}
use Rattle.qn_live.specs.TripleRuns.{all_good, triple_plan}
use Rattle.qn_live.proofs.Single.{single}
use Rattle.qn_live.proofs.Wiped.{live_wiped}
use Rattle.qn_live.proofs.triple_laws.law_triple_history.Goals as goal

pub returns : goal.returns
unfolding triple_plan
returns c = λ s me clean leave polls turns calls ran follows.
    let one = single s me all_good (live_plan s me clean leave polls turns) calls ran (live_wiped s me clean leave polls turns) follows in
    c.law_one_history.ensures s me clean leave polls turns one.one ran one.follows

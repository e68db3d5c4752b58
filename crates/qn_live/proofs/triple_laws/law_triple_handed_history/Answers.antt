use Rattle.std.proofs.Common.{◌∙◌}
use Rattle.qn_live.specs.Runs.{live_plan}
use Rattle.qn_live.specs.TripleRuns.{all_good, triple_plan}
use Rattle.qn_live.proofs.TripleOutputs.{on_one}
use Rattle.qn_live.proofs.Wiped.{live_wiped}
use Rattle.qn_live.proofs.triple_laws.law_triple_handed_history.Goals as goal

pub returns : goal.returns
unfolding triple_plan
returns c = λ s me clean leave polls turns calls ran follows.
    let one = on_one s me all_good (live_plan s me clean leave polls turns) calls ran (live_wiped s me clean leave polls turns) follows in
    let handed = c.law_handed_history.ensures s me clean leave polls turns one.one ran one.follows in
    record { history = handed.history; log = handed.log; begins = handed.begins; looks = one.looks ∙ handed.looks }

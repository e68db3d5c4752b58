use Rattle.std.proofs.Common.{List, filter, subst}
use Rattle.qn_base.specs.declared.calls.Call.{Call}
use Rattle.qn_base.specs.Plans.{Follows}
use Rattle.qn_live.specs.Laws.{is_output}
use Rattle.qn_live.specs.Runs.{live_plan}
use Rattle.qn_live.specs.TripleOutputs.{one_by_one}
use Rattle.qn_live.specs.TripleRuns.{all_good, on_three, triple_plan}
use Rattle.qn_live.proofs.TripleOutputs.{on_one}
use Rattle.qn_live.proofs.Wiped.{live_wiped}
use Rattle.qn_live.proofs.triple_laws.law_triple_outputs.Goals as goal

pub returns : goal.returns
unfolding triple_plan
returns c = λ s me clean leave polls turns calls ran follows.
    let one = on_one s me all_good (live_plan s me clean leave polls turns) calls ran (live_wiped s me clean leave polls turns) follows in
    subst (λ (outputs : List Call). Follows (on_three s me all_good (one_by_one outputs)) (filter is_output calls) tt)
    (c.law_outputs.ensures s me clean leave polls turns one.one ran one.follows) one.outputs

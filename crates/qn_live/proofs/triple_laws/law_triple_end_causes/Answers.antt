use Rattle.qn_live.specs.Runs.{live_plan}
use Rattle.qn_live.specs.TripleRuns.{all_good, triple_plan}
use Rattle.qn_live.proofs.Single.{single}
use Rattle.qn_live.proofs.Wiped.{live_wiped}
use Rattle.qn_live.proofs.triple_laws.law_triple_end_causes.Goals as goal

pub returns-clause-calls : goal.returns-clause-calls
unfolding triple_plan
returns-clause-calls c = λ s me clean leave polls turns calls ran follows whole.
    let one = single s me all_good (live_plan s me clean leave polls turns) calls ran (live_wiped s me clean leave polls turns) follows in
    c.law_end_causes.ensures.calls s me clean leave polls turns one.one ran one.follows (one.whole whole)

pub returns-clause-clock : goal.returns-clause-clock
unfolding triple_plan
returns-clause-clock c = λ s me clean leave polls turns calls ran follows rises.
    let one = single s me all_good (live_plan s me clean leave polls turns) calls ran (live_wiped s me clean leave polls turns) follows in
    c.law_end_causes.ensures.clock s me clean leave polls turns one.one ran one.follows (one.rises 0 rises)

pub returns-clause-sound : goal.returns-clause-sound
unfolding triple_plan
returns-clause-sound c = λ s me clean leave polls turns calls ran follows whole rises.
    let one = single s me all_good (live_plan s me clean leave polls turns) calls ran (live_wiped s me clean leave polls turns) follows in
    c.law_sound_end.ensures s me clean leave polls turns one.one ran one.follows (one.whole whole) (one.rises 0 rises)

use Rattle.std.proofs.Common.{ap, subst, sym}
use Rattle.qn_world.specs.Standing.{WorldFor}
use Rattle.qn_arbiter.specs.Whole.{Kept}
use Rattle.qn_arbiter.proofs.state.State.report_quiet.Goals as goal

pub returns-clause-outs : goal.returns-clause-outs
returns-clause-outs c standing =
    ap (λ r. r.outs) (c.report_quiet.ensures standing.0.world (subst (λ (k : Kept). WorldFor k.world standing.0.world) (sym c.self.view_is) standing.1.world))

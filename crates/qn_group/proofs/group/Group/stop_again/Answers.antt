-- Which resource is stuck says nothing of what is under way, so what is done is done from the stages before.
use Rattle.std.proofs.Common.{◌≡◌, List, ap, subst, ◌∙◌}
use Rattle.qn_group.specs.declared.phase.Phase.{Phase}
use Rattle.qn_group.specs.Phases.{Stage, stage_of}
use Rattle.qn_group.specs.Places.{Moved, phase_of}
use Rattle.qn_group.specs.Steps.{stage_at}
use Rattle.qn_group.proofs.Stages.{Moved-from_Acted}
use Rattle.qn_group.proofs.group.Group.stop_again.Goals.{then-not-matches, else-not-matches}
use Rattle.qn_group.proofs.group.Group.stop_again.Goals as goal

pub returns-clause-moved : goal.returns-clause-moved
returns-clause-moved c = λ at.
    let same : c.if-not-matches.self.phases ≡ c.free_stuck-is_stuck.new.self.phases =
    elim c.if-not-matches.branch [ then-not-matches w ↦ cc | else-not-matches w ↦ cc ] in
    let moved = Moved-from_Acted c.drive.result c.if-not-matches.self.phases c.drive.new.self.phases at c.drive.ensures.acted in
    let stage : stage_of (phase_of c.if-not-matches.self.phases at) ≡ stage_at c.args.self.now at =
    ap (λ (phases : List Phase). stage_of (phase_of phases at)) same ∙ c.free_stuck-is_stuck.ensures.stages at in
    subst (λ (before : Stage). Moved c.drive.result at before (stage_at c.drive.new.self at)) stage moved

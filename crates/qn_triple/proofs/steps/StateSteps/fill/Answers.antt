use Rattle.std.proofs.Common.{◌≡◌, ◌∙◌, ap, subst, sym, true}
use Rattle.qn_cluster.specs.Standing.{ClusterFor}
use Rattle.qn_model.specs.declared.events.Event.TheVariants as event
use Rattle.qn_model.specs.Rules.{is_well_formed}
use Rattle.qn_model.specs.Steps.{outs_after, report}
use Rattle.qn_model.specs.World.{World}
use Rattle.qn_safety.specs.TripleRules.{is_well_formed_triple}
use Rattle.qn_safety.specs.TripleSteps.{as_one}
use Rattle.qn_safety.specs.TripleWorld.{nodes_of}
use Rattle.qn_triple.specs.Whole.{cluster_of}
use Rattle.qn_triple.proofs.EventSteps.{formed_one}
use Rattle.qn_triple.proofs.RuleSteps.{fail_rank, land_event, land_rank, late_event, operator_event, operator_rank}
use Rattle.qn_triple.proofs.steps.StateSteps.fill.Goals as goal

pub fill-requires-clause-formed : goal.fill-requires-clause-formed
fill-requires-clause-formed c =
    subst (λ n. is_well_formed n.settings (c.in-One.event) ≡ true) (sym (ap cluster_of c.self.view_is))
    (formed_one c.args.self.now.settings c.in-One.event (subst (λ e. is_well_formed_triple c.args.self.now.settings e ≡ true) c.in-One.is c.requires.formed))

pub returns-in-One : goal.returns-in-One
returns-in-One c = λ d is gives.
    subst (λ n. (d : World) → ClusterFor n d.moments → c.args.into.now.outs ≡ outs_after n.settings (c.in-One.event) d → c.fill.new.into ≡ report n.settings (c.in-One.event) d)
    (ap cluster_of c.self.view_is) c.fill.ensures (nodes_of d) is.cluster (gives ∙ ap (λ e. outs_after c.args.self.now.settings (as_one e) (nodes_of d)) c.in-One.is)
    ∙ ap (λ e. report c.args.self.now.settings (as_one e) (nodes_of d)) (sym c.in-One.is)

pub fill-requires-in-LandOn-clause-formed : goal.fill-requires-in-LandOn-clause-formed
fill-requires-in-LandOn-clause-formed c =
    subst (λ n. is_well_formed n.settings (event.Land c.in-LandOn.i) ≡ true) (sym (ap cluster_of c.self.view_is))
    (land_event c.args.self.now.settings c.in-LandOn.i (land_rank c.args.self.now.settings c.in-LandOn.i _ (subst (λ e. is_well_formed_triple c.args.self.now.settings e ≡ true) c.in-LandOn.is c.requires.formed)))

pub returns-in-LandOn : goal.returns-in-LandOn
returns-in-LandOn c = λ d is gives.
    subst (λ n. (d : World) → ClusterFor n d.moments → c.args.into.now.outs ≡ outs_after n.settings (event.Land c.in-LandOn.i) d → c.fill-in-LandOn.new.into ≡ report n.settings (event.Land c.in-LandOn.i) d)
    (ap cluster_of c.self.view_is) c.fill-in-LandOn.ensures (nodes_of d) is.cluster (gives ∙ ap (λ e. outs_after c.args.self.now.settings (as_one e) (nodes_of d)) c.in-LandOn.is)
    ∙ ap (λ e. report c.args.self.now.settings (as_one e) (nodes_of d)) (sym c.in-LandOn.is)

pub fill-requires-in-FailOn-clause-formed : goal.fill-requires-in-FailOn-clause-formed
fill-requires-in-FailOn-clause-formed c =
    subst (λ n. is_well_formed n.settings (event.Land c.in-FailOn.i) ≡ true) (sym (ap cluster_of c.self.view_is))
    (land_event c.args.self.now.settings c.in-FailOn.i (fail_rank c.args.self.now.settings c.in-FailOn.i _ (subst (λ e. is_well_formed_triple c.args.self.now.settings e ≡ true) c.in-FailOn.is c.requires.formed)))

pub returns-in-FailOn : goal.returns-in-FailOn
returns-in-FailOn c = λ d is gives.
    subst (λ n. (d : World) → ClusterFor n d.moments → c.args.into.now.outs ≡ outs_after n.settings (event.Land c.in-FailOn.i) d → c.fill-in-FailOn.new.into ≡ report n.settings (event.Land c.in-FailOn.i) d)
    (ap cluster_of c.self.view_is) c.fill-in-FailOn.ensures (nodes_of d) is.cluster (gives ∙ ap (λ e. outs_after c.args.self.now.settings (as_one e) (nodes_of d)) c.in-FailOn.is)
    ∙ ap (λ e. report c.args.self.now.settings (as_one e) (nodes_of d)) (sym c.in-FailOn.is)

pub fill-requires-in-LateOn-clause-formed : goal.fill-requires-in-LateOn-clause-formed
fill-requires-in-LateOn-clause-formed c =
    subst (λ n. is_well_formed n.settings (event.Late c.in-LateOn.i c.in-LateOn.number) ≡ true) (sym (ap cluster_of c.self.view_is))
    (late_event c.args.self.now.settings c.in-LateOn.i _ c.in-LateOn.number (subst (λ e. is_well_formed_triple c.args.self.now.settings e ≡ true) c.in-LateOn.is c.requires.formed))

pub returns-in-LateOn : goal.returns-in-LateOn
returns-in-LateOn c = λ d is gives.
    subst (λ n. (d : World) → ClusterFor n d.moments → c.args.into.now.outs ≡ outs_after n.settings (event.Late c.in-LateOn.i c.in-LateOn.number) d → c.fill-in-LateOn.new.into ≡ report n.settings (event.Late c.in-LateOn.i c.in-LateOn.number) d)
    (ap cluster_of c.self.view_is) c.fill-in-LateOn.ensures (nodes_of d) is.cluster (gives ∙ ap (λ e. outs_after c.args.self.now.settings (as_one e) (nodes_of d)) c.in-LateOn.is)
    ∙ ap (λ e. report c.args.self.now.settings (as_one e) (nodes_of d)) (sym c.in-LateOn.is)

pub fill-requires-in-OperatorOn-clause-formed : goal.fill-requires-in-OperatorOn-clause-formed
fill-requires-in-OperatorOn-clause-formed c =
    subst (λ n. is_well_formed n.settings (event.Operator c.in-OperatorOn.i c.in-OperatorOn.message) ≡ true) (sym (ap cluster_of c.self.view_is))
    (operator_event c.args.self.now.settings c.in-OperatorOn.i c.in-OperatorOn.message (operator_rank c.args.self.now.settings c.in-OperatorOn.i _ c.in-OperatorOn.message (subst (λ e. is_well_formed_triple c.args.self.now.settings e ≡ true) c.in-OperatorOn.is c.requires.formed)))

pub returns-in-OperatorOn : goal.returns-in-OperatorOn
returns-in-OperatorOn c = λ d is gives.
    subst (λ n. (d : World) → ClusterFor n d.moments → c.args.into.now.outs ≡ outs_after n.settings (event.Operator c.in-OperatorOn.i c.in-OperatorOn.message) d → c.fill-in-OperatorOn.new.into ≡ report n.settings (event.Operator c.in-OperatorOn.i c.in-OperatorOn.message) d)
    (ap cluster_of c.self.view_is) c.fill-in-OperatorOn.ensures (nodes_of d) is.cluster (gives ∙ ap (λ e. outs_after c.args.self.now.settings (as_one e) (nodes_of d)) c.in-OperatorOn.is)
    ∙ ap (λ e. report c.args.self.now.settings (as_one e) (nodes_of d)) (sym c.in-OperatorOn.is)

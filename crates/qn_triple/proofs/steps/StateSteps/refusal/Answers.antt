use Rattle.std.proofs.Common.{◌≡◌, ◌∙◌, true, ap, subst, sym}
use Rattle.qn_safety.specs.TripleRules.{is_well_formed_triple, refusal_triple}
use Rattle.qn_triple.proofs.EventSteps.{formed_one}
use Rattle.qn_triple.proofs.RuleSteps.{fail_image, fail_rank, few, land_image, land_rank, late_image, late_number, operator_image, operator_rank, within}
use Rattle.qn_triple.proofs.steps.StateSteps.refusal.Goals as goal

pub refuses_one-requires-clause-formed : goal.refuses_one-requires-clause-formed
refuses_one-requires-clause-formed c = formed_one c.args.self.now.settings c.in-One.event (subst (λ e. is_well_formed_triple c.args.self.now.settings e ≡ true) c.in-One.is c.requires.formed)

pub returns-in-One : goal.returns-in-One
unfolding refusal_triple
returns-in-One c = λ d is. c.refuses_one.ensures d is ∙ ap (λ e. refusal_triple c.args.self.now.settings c.args.self.now.timing e d) (sym c.in-One.is)

pub refuses_land-requires : goal.refuses_land-requires
refuses_land-requires c =
    record {
      within = within c.args.self.now c.in-LandOn.i.0 c.requires.standing (land_rank c.args.self.now.settings c.in-LandOn.i c.in-LandOn.image (subst (λ e. is_well_formed_triple c.args.self.now.settings e ≡ true) c.in-LandOn.is c.requires.formed));
      few = few c.args.self.now c.in-LandOn.i.0 c.requires.standing (land_rank c.args.self.now.settings c.in-LandOn.i c.in-LandOn.image (subst (λ e. is_well_formed_triple c.args.self.now.settings e ≡ true) c.in-LandOn.is c.requires.formed));
      image = land_image c.args.self.now.settings c.in-LandOn.i c.in-LandOn.image (subst (λ e. is_well_formed_triple c.args.self.now.settings e ≡ true) c.in-LandOn.is c.requires.formed);
    }

pub returns-in-LandOn : goal.returns-in-LandOn
unfolding refusal_triple
returns-in-LandOn c = λ d is. c.refuses_land.ensures d is ∙ ap (λ e. refusal_triple c.args.self.now.settings c.args.self.now.timing e d) (sym c.in-LandOn.is)

pub refuses_fail-requires : goal.refuses_fail-requires
refuses_fail-requires c =
    record {
      within = within c.args.self.now c.in-FailOn.i.0 c.requires.standing (fail_rank c.args.self.now.settings c.in-FailOn.i c.in-FailOn.image (subst (λ e. is_well_formed_triple c.args.self.now.settings e ≡ true) c.in-FailOn.is c.requires.formed));
      few = few c.args.self.now c.in-FailOn.i.0 c.requires.standing (fail_rank c.args.self.now.settings c.in-FailOn.i c.in-FailOn.image (subst (λ e. is_well_formed_triple c.args.self.now.settings e ≡ true) c.in-FailOn.is c.requires.formed));
      image = fail_image c.args.self.now.settings c.in-FailOn.i c.in-FailOn.image (subst (λ e. is_well_formed_triple c.args.self.now.settings e ≡ true) c.in-FailOn.is c.requires.formed);
    }

pub returns-in-FailOn : goal.returns-in-FailOn
unfolding refusal_triple
returns-in-FailOn c = λ d is. c.refuses_fail.ensures d is ∙ ap (λ e. refusal_triple c.args.self.now.settings c.args.self.now.timing e d) (sym c.in-FailOn.is)

pub refuses_operator-requires : goal.refuses_operator-requires
refuses_operator-requires c =
    record {
      within = within c.args.self.now c.in-OperatorOn.i.0 c.requires.standing (operator_rank c.args.self.now.settings c.in-OperatorOn.i c.in-OperatorOn.image c.in-OperatorOn.message (subst (λ e. is_well_formed_triple c.args.self.now.settings e ≡ true) c.in-OperatorOn.is c.requires.formed));
      few = few c.args.self.now c.in-OperatorOn.i.0 c.requires.standing (operator_rank c.args.self.now.settings c.in-OperatorOn.i c.in-OperatorOn.image c.in-OperatorOn.message (subst (λ e. is_well_formed_triple c.args.self.now.settings e ≡ true) c.in-OperatorOn.is c.requires.formed));
      image = operator_image c.args.self.now.settings c.in-OperatorOn.i c.in-OperatorOn.image c.in-OperatorOn.message (subst (λ e. is_well_formed_triple c.args.self.now.settings e ≡ true) c.in-OperatorOn.is c.requires.formed);
    }

pub returns-in-OperatorOn : goal.returns-in-OperatorOn
unfolding refusal_triple
returns-in-OperatorOn c = λ d is. c.refuses_operator.ensures d is ∙ ap (λ e. refusal_triple c.args.self.now.settings c.args.self.now.timing e d) (sym c.in-OperatorOn.is)

pub refuses_late-requires : goal.refuses_late-requires
refuses_late-requires c =
    record {
      image = late_image c.args.self.now.settings c.in-LateOn.i c.in-LateOn.image c.in-LateOn.number (subst (λ e. is_well_formed_triple c.args.self.now.settings e ≡ true) c.in-LateOn.is c.requires.formed);
      number = late_number c.args.self.now.settings c.in-LateOn.i c.in-LateOn.image c.in-LateOn.number (subst (λ e. is_well_formed_triple c.args.self.now.settings e ≡ true) c.in-LateOn.is c.requires.formed);
    }

pub returns-in-LateOn : goal.returns-in-LateOn
unfolding refusal_triple
returns-in-LateOn c = λ d is. c.refuses_late.ensures d is ∙ ap (λ e. refusal_triple c.args.self.now.settings c.args.self.now.timing e d) (sym c.in-LateOn.is)

use Rattle.std.proofs.Common.{◌∙◌, ◌≡◌, ap, subst, sym, true}
use Rattle.qn_model.specs.Rules.{is_well_formed, refusal}
use Rattle.qn_model.specs.Steps.{touched}
use Rattle.qn_world.proofs.RuleSteps.{late_number, rank_few, rank_within}
use Rattle.qn_world.proofs.steps.StateSteps.refusal.Goals as goal

pub refuses_land-requires : goal.refuses_land-requires
refuses_land-requires c =
    let touches = ap touched c.in-Land.is in
    record {
      within = rank_within c.args.self.now c.args.event.now _ c.requires.standing c.requires.formed touches;
      few = rank_few c.args.self.now c.args.event.now _ c.requires.standing c.requires.formed touches;
    }

pub returns-in-Land : goal.returns-in-Land
unfolding refusal
returns-in-Land c d is = c.refuses_land.ensures d is ∙ ap (λ e. refusal c.args.self.now.settings c.args.self.now.timing e d) (sym c.in-Land.is)

pub refuses_done-requires : goal.refuses_done-requires
refuses_done-requires c =
    let touches = ap touched c.in-Done.is in
    record {
      within = rank_within c.args.self.now c.args.event.now _ c.requires.standing c.requires.formed touches;
      few = rank_few c.args.self.now c.args.event.now _ c.requires.standing c.requires.formed touches;
    }

pub returns-in-Done : goal.returns-in-Done
unfolding refusal
returns-in-Done c d is = c.refuses_done.ensures d is ∙ ap (λ e. refusal c.args.self.now.settings c.args.self.now.timing e d) (sym c.in-Done.is)

pub refuses_fail-requires : goal.refuses_fail-requires
refuses_fail-requires c = rank_within c.args.self.now c.args.event.now _ c.requires.standing c.requires.formed (ap touched c.in-Fail.is)

pub returns-in-Fail : goal.returns-in-Fail
unfolding refusal
returns-in-Fail c d is = c.refuses_fail.ensures d is ∙ ap (λ e. refusal c.args.self.now.settings c.args.self.now.timing e d) (sym c.in-Fail.is)

pub refuses_operator-requires : goal.refuses_operator-requires
refuses_operator-requires c =
    let touches = ap touched c.in-Operator.is in
    record {
      within = rank_within c.args.self.now c.args.event.now _ c.requires.standing c.requires.formed touches;
      few = rank_few c.args.self.now c.args.event.now _ c.requires.standing c.requires.formed touches;
    }

pub returns-in-Operator : goal.returns-in-Operator
unfolding refusal
returns-in-Operator c d is = c.refuses_operator.ensures d is ∙ ap (λ e. refusal c.args.self.now.settings c.args.self.now.timing e d) (sym c.in-Operator.is)

pub refuses_late-requires : goal.refuses_late-requires
refuses_late-requires c =
    late_number c.args.self.now.settings _ _ (subst (λ e. is_well_formed c.args.self.now.settings e ≡ true) c.in-Late.is c.requires.formed)

pub returns-in-Late : goal.returns-in-Late
unfolding refusal
returns-in-Late c d is = c.refuses_late.ensures d is ∙ ap (λ e. refusal c.args.self.now.settings c.args.self.now.timing e d) (sym c.in-Late.is)

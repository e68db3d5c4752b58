use Rattle.std.proofs.Common.{◌∙◌, ap, refl, subst, sym}
use Rattle.qn_arbiter.specs.Stepping.{Applied}
use Rattle.qn_arbiter.proofs.ApplySteps.{applied, spent}
use Rattle.qn_arbiter.proofs.Refusals.{own_decides}
use Rattle.qn_arbiter.proofs.state.State.apply.Goals as goal

pub returns-in-Some-clause-err : goal.returns-in-Some-clause-err
returns-in-Some-clause-err c =
    let s = c.args.self.now.world.settings in
    let t = c.args.self.now.world.timing in
    record {
      same = refl;
      why = λ d is. own_decides s t c.args.event.now d c.in-Some.rule (sym (c.refusal.ensures d is) ∙ c.in-Some.is);
      memory = λ none. absurd (cc);
    }

pub returns-clause-ok : goal.returns-clause-ok
returns-clause-ok c =
    subst (λ after. Applied c.args.self.now after c.args.event.now c.step.new.into) (sym (ap spent c.self.view_is))
    (applied c.args.self.now c.step.new.self c.args.event.now c.step.new.into c.requires.left c.requires.room c.in_ok-step.ensures.ok)

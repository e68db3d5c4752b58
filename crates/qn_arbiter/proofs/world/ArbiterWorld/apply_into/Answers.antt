use Rattle.std.proofs.Common.{◌≡◌, subst, sym, true}
use Rattle.qn_safety.specs.ArbiterRules.{is_well_formed_beside}
use Rattle.qn_safety.specs.ArbiterSteps.{step_beside}
use Rattle.qn_safety.specs.ArbiterWorld.{ArbiterWorld}
use Rattle.qn_arbiter.specs.Standing.{ArbiterFor}
use Rattle.qn_arbiter.specs.Stepping.{OneVoteIn}
use Rattle.qn_arbiter.specs.Whole.{Whole, whole_of}
use Rattle.qn_arbiter.proofs.ApplySteps.{one_vote, reached_more}
use Rattle.qn_arbiter.proofs.world.ArbiterWorld.apply_into.Goals as goal

pub invariant_of-self-2 : goal.invariant_of-self-2
invariant_of-self-2 c =
    let formed = subst (λ (w : Whole). is_well_formed_beside w.settings c.args.event.now ≡ true) (sym c.self.view_is) c.requires.formed in
    (_, reached_more c.self.inside.state c.apply.new.self c.args.event.now c.apply.new.into formed c.in_ok-apply.ensures.ok c.self.invariant.0 c.self.invariant.1)

pub returns-clause-stands : goal.returns-clause-stands
returns-clause-stands c =
    let formed = subst (λ (w : Whole). is_well_formed_beside w.settings c.args.event.now ≡ true) (sym c.self.view_is) c.requires.formed in
    subst (λ (w : Whole). (d : ArbiterWorld) → ArbiterFor w d → ArbiterFor (whole_of c.apply.new.self) (step_beside w.settings w.timing w.lease c.args.event.now d)) c.self.view_is
    (λ d is. reached_more c.self.inside.state c.apply.new.self c.args.event.now c.apply.new.into formed c.in_ok-apply.ensures.ok d is)

pub returns-clause-one_vote : goal.returns-clause-one_vote
returns-clause-one_vote c = λ d is.
    let made = c.in_ok-apply.ensures.ok in
    subst (λ (w : Whole). OneVoteIn w.settings w.lease d) c.self.view_is
    (subst (λ s. OneVoteIn s c.self.inside.state.lease d) made.settings
    (subst (λ l. OneVoteIn c.apply.new.self.world.settings l d) made.lease (one_vote c.law_one_lease.ensures (whole_of c.apply.new.self) d is)))

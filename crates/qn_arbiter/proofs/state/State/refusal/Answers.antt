use Rattle.std.proofs.Common.{◌≡◌, ◌∙◌, ap, ap₂, not, subst, sym, true}
use Rattle.std.specs.Option.{option_or}
use Rattle.qn_safety.specs.ArbiterRules.{is_well_formed_beside}
use Rattle.qn_model.specs.Rules.{unless}
use Rattle.qn_arbiter.specs.OwnRules.{own_refusal}
use Rattle.qn_arbiter.proofs.Following.{pass_formed}
use Rattle.qn_arbiter.proofs.Quiet.{poll_rank}
use Rattle.qn_arbiter.proofs.state.State.refusal.Goals as goal

pub may_pass_with-requires : goal.may_pass_with-requires
may_pass_with-requires c =
    let s = c.args.self.now.world.settings in
    (pass_formed s c.in-PassWith.advance c.in-PassWith.one (subst (λ e. is_well_formed_beside s e ≡ true) c.in-PassWith.is c.requires.formed)).1

pub may_poll-requires : goal.may_poll-requires
may_poll-requires c =
    let s = c.args.self.now.world.settings in
    poll_rank s c.in-Poll.i (subst (λ e. is_well_formed_beside s e ≡ true) c.in-Poll.is c.requires.formed)

pub returns-in-One : goal.returns-in-One
unfolding own_refusal
returns-in-One c = λ d is.
    (c.unless.ensures ∙ ap (λ b. unless (not b) 11) c.is_yes_of_device.ensures)
    ∙ ap (λ e. own_refusal c.args.self.now.world.settings e d) (sym c.in-One.is)

pub returns-in-PassWith : goal.returns-in-PassWith
unfolding own_refusal
returns-in-PassWith c = λ d is.
    (c.unless-in-PassWith.ensures ∙ ap (λ b. unless b 15) (c.may_pass_with.ensures d is))
    ∙ ap (λ e. own_refusal c.args.self.now.world.settings e d) (sym c.in-PassWith.is)

pub returns-in-ArbiterBoot : goal.returns-in-ArbiterBoot
unfolding own_refusal
returns-in-ArbiterBoot c = λ d is.
    (c.unless-in-ArbiterBoot.ensures ∙ ap (λ b. unless (not b) 12) (c.is_arbiter_on.ensures d is))
    ∙ ap (λ e. own_refusal c.args.self.now.world.settings e d) (sym c.in-ArbiterBoot.is)

pub returns-in-ArbiterCrash : goal.returns-in-ArbiterCrash
unfolding own_refusal
returns-in-ArbiterCrash c = λ d is.
    (c.unless-in-ArbiterCrash.ensures ∙ ap (λ b. unless b 12) (c.is_arbiter_on-in-ArbiterCrash.ensures d is))
    ∙ ap (λ e. own_refusal c.args.self.now.world.settings e d) (sym c.in-ArbiterCrash.is)

pub returns-in-Poll : goal.returns-in-Poll
unfolding own_refusal
returns-in-Poll c = λ d is.
    (c.unless-in-Poll.ensures ∙ ap (λ b. unless b 13) (c.may_poll.ensures d is))
    ∙ ap (λ e. own_refusal c.args.self.now.world.settings e d) (sym c.in-Poll.is)

pub returns-in-Hear : goal.returns-in-Hear
unfolding own_refusal
returns-in-Hear c = λ d is.
    c.or.ensures
    ∙ ap₂ option_or (c.unless-in-Hear.ensures ∙ ap (λ b. unless b 12) (c.is_arbiter_on-in-Hear.ensures d is))
    (c.unless-in-Hear-2.ensures ∙ ap (λ b. unless b 14) (c.may_hear.ensures d is))
    ∙ ap (λ e. own_refusal c.args.self.now.world.settings e d) (sym c.in-Hear.is)

pub returns-in-Reply : goal.returns-in-Reply
unfolding own_refusal
returns-in-Reply c = λ d is.
    (c.unless-in-Reply.ensures ∙ ap (λ b. unless b 14) (c.may_reply.ensures d is))
    ∙ ap (λ e. own_refusal c.args.self.now.world.settings e d) (sym c.in-Reply.is)

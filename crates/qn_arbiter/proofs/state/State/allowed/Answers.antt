use Rattle.std.proofs.Common.{◌≡◌, ◌∙◌, None, Some, ap, subst, sym, true}
use Rattle.std.specs.Prelude.{MatchResult}
use Rattle.qn_safety.specs.ArbiterRules.{is_well_formed_beside}
use Rattle.qn_model.specs.Rules.{is_well_formed, refusal}
use Rattle.qn_model.specs.World.{World}
use Rattle.qn_world.specs.Standing.{WorldFor}
use Rattle.qn_arbiter.specs.OwnRules.{nodes_refusal}
use Rattle.qn_arbiter.specs.Whole.{Kept}
use Rattle.qn_arbiter.proofs.Following.{one_formed, pass_formed}
use Rattle.qn_arbiter.proofs.Refusals.{nodes_decide, own_decides}
use Rattle.qn_arbiter.proofs.state.State.allowed.Goals as goal

pub returns-in-Some : goal.returns-in-Some
returns-in-Some c = λ d is.
    own_decides c.args.self.now.world.settings c.args.self.now.world.timing c.args.event.now d c.in-Some.rule (sym (c.refusal.ensures d is) ∙ c.in-Some.is)

pub allowed-requires-clause-formed : goal.allowed-requires-clause-formed
allowed-requires-clause-formed c =
    let s = c.args.self.now.world.settings in
    subst (λ (k : Kept). is_well_formed k.world.settings c.in-One.one ≡ true) (sym c.self.view_is)
    (one_formed s c.in-One.one (subst (λ e. is_well_formed_beside s e ≡ true) c.in-One.is c.requires.formed))

pub allowed-requires-in-PassWith-clause-formed : goal.allowed-requires-in-PassWith-clause-formed
allowed-requires-in-PassWith-clause-formed c =
    let s = c.args.self.now.world.settings in
    subst (λ (k : Kept). is_well_formed k.world.settings c.in-PassWith.one ≡ true) (sym c.self.view_is)
    (pass_formed s c.in-PassWith.field-0 c.in-PassWith.one (subst (λ e. is_well_formed_beside s e ≡ true) c.in-PassWith.is c.requires.formed)).1

pub returns-in-One : goal.returns-in-One
returns-in-One c = λ d is.
    let s = c.args.self.now.world.settings in
    let t = c.args.self.now.world.timing in
    let one = c.in-One.one in
    let decides = nodes_decide s t c.args.event.now d (sym (c.refusal.ensures d is) ∙ c.in_default.is) ∙ ap (λ e. nodes_refusal s t e d) c.in-One.is in
    subst (λ o. MatchResult c.allowed.result (λ _. o ≡ None) (λ rule. o ≡ Some rule.0)) (sym decides)
    (subst (λ (k : Kept). (d : World) → WorldFor k.world d → MatchResult c.allowed.result (λ _. refusal k.world.settings k.world.timing one d ≡ None)
    (λ rule. refusal k.world.settings k.world.timing one d ≡ Some rule.0)) c.self.view_is c.allowed.ensures d.world is.world)

pub returns-in-PassWith : goal.returns-in-PassWith
returns-in-PassWith c = λ d is.
    let s = c.args.self.now.world.settings in
    let t = c.args.self.now.world.timing in
    let one = c.in-PassWith.one in
    let decides = nodes_decide s t c.args.event.now d (sym (c.refusal.ensures d is) ∙ c.in_default.is) ∙ ap (λ e. nodes_refusal s t e d) c.in-PassWith.is in
    subst (λ o. MatchResult c.allowed-in-PassWith.result (λ _. o ≡ None) (λ rule. o ≡ Some rule.0)) (sym decides)
    (subst (λ (k : Kept). (d : World) → WorldFor k.world d → MatchResult c.allowed-in-PassWith.result (λ _. refusal k.world.settings k.world.timing one d ≡ None)
    (λ rule. refusal k.world.settings k.world.timing one d ≡ Some rule.0)) c.self.view_is c.allowed-in-PassWith.ensures d.world is.world)

pub returns-in-ArbiterBoot : goal.returns-in-ArbiterBoot
returns-in-ArbiterBoot c = λ d is.
    let s = c.args.self.now.world.settings in
    let t = c.args.self.now.world.timing in
    nodes_decide s t c.args.event.now d (sym (c.refusal.ensures d is) ∙ c.in_default.is) ∙ ap (λ e. nodes_refusal s t e d) c.in-ArbiterBoot.is

pub returns-in-ArbiterCrash : goal.returns-in-ArbiterCrash
returns-in-ArbiterCrash c = λ d is.
    let s = c.args.self.now.world.settings in
    let t = c.args.self.now.world.timing in
    nodes_decide s t c.args.event.now d (sym (c.refusal.ensures d is) ∙ c.in_default.is) ∙ ap (λ e. nodes_refusal s t e d) c.in-ArbiterCrash.is

pub returns-in-Poll : goal.returns-in-Poll
returns-in-Poll c = λ d is.
    let s = c.args.self.now.world.settings in
    let t = c.args.self.now.world.timing in
    nodes_decide s t c.args.event.now d (sym (c.refusal.ensures d is) ∙ c.in_default.is) ∙ ap (λ e. nodes_refusal s t e d) c.in-Poll.is

pub returns-in-Hear : goal.returns-in-Hear
returns-in-Hear c = λ d is.
    let s = c.args.self.now.world.settings in
    let t = c.args.self.now.world.timing in
    nodes_decide s t c.args.event.now d (sym (c.refusal.ensures d is) ∙ c.in_default.is) ∙ ap (λ e. nodes_refusal s t e d) c.in-Hear.is

pub returns-in-Reply : goal.returns-in-Reply
returns-in-Reply c = λ d is.
    let s = c.args.self.now.world.settings in
    let t = c.args.self.now.world.timing in
    nodes_decide s t c.args.event.now d (sym (c.refusal.ensures d is) ∙ c.in_default.is) ∙ ap (λ e. nodes_refusal s t e d) c.in-Reply.is

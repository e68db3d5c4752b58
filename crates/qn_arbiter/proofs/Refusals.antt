-- The rules of a world beside an arbiter are its own, and then those of its nodes.
use Rattle.std.proofs.Common.{◌≡◌, ℕ, Option, None, Some, refl, sym, ◌∙◌, ap}
use Rattle.std.specs.Option.{option_or}
use Rattle.qn_safety.specs.declared.arbiter_event.ArbiterEvent.{ArbiterEvent}
use Rattle.qn_safety.specs.declared.arbiter_event.ArbiterEvent.TheVariants as beside
use Rattle.qn_safety.specs.ArbiterRules.{refusal_beside}
use Rattle.qn_safety.specs.ArbiterWorld.{ArbiterWorld}
use Rattle.qn_model.specs.declared.configuration.Settings.{Settings}
use Rattle.qn_model.specs.declared.times.Timing.{Timing}
use Rattle.qn_arbiter.specs.OwnRules.{nodes_refusal, own_refusal}

or_none : (o : Option ℕ) → option_or o None ≡ o
or_none None = refl
or_none (Some rule) = refl

pub both_refusals : (s : Settings) (t : Timing) (event : ArbiterEvent) (d : ArbiterWorld)
    → refusal_beside s t event d ≡ option_or (own_refusal s event d) (nodes_refusal s t event d)
unfolding refusal_beside own_refusal
both_refusals s t (beside.One one) d = refl
both_refusals s t (beside.PassWith hundredths one) d = refl
both_refusals s t (beside.ArbiterBoot base) d = sym (or_none _)
both_refusals s t beside.ArbiterCrash d = sym (or_none _)
both_refusals s t (beside.Poll rank) d = sym (or_none _)
both_refusals s t (beside.Hear number) d = sym (or_none _)
both_refusals s t (beside.Reply number) d = sym (or_none _)

-- where no rule of its own refuses, the rules of the nodes decide
pub nodes_decide : (s : Settings) (t : Timing) (event : ArbiterEvent) (d : ArbiterWorld) → own_refusal s event d ≡ None
    → refusal_beside s t event d ≡ nodes_refusal s t event d
nodes_decide s t event d e = both_refusals s t event d ∙ ap (λ o. option_or o (nodes_refusal s t event d)) e

pub own_decides : (s : Settings) (t : Timing) (event : ArbiterEvent) (d : ArbiterWorld) (rule : ℕ) → own_refusal s event d ≡ Some rule
    → refusal_beside s t event d ≡ Some rule
own_decides s t event d rule e = both_refusals s t event d ∙ ap (λ o. option_or o (nodes_refusal s t event d)) e

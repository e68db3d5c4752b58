-- The rules of a world beside an arbiter that are not those of its nodes: 11 to 15.
use Rattle.std.specs.Prelude.{ℕ, Option, None, Some, not}
use Rattle.std.specs.Option.{option_map_or, option_or}
use Rattle.qn_safety.specs.declared.arbiter_event.ArbiterEvent.{ArbiterEvent}
use Rattle.qn_safety.specs.declared.arbiter_event.ArbiterEvent.TheVariants as beside
use Rattle.qn_safety.specs.ArbiterRules.{is_arbiter_on, is_yes_of_device, may_hear, may_pass_with, may_poll, may_reply}
use Rattle.qn_safety.specs.ArbiterWorld.{ArbiterWorld}
use Rattle.qn_model.specs.declared.configuration.Settings.{Settings}
use Rattle.qn_model.specs.declared.events.Event.{Event}
use Rattle.qn_model.specs.declared.times.Timing.{Timing}
use Rattle.qn_model.specs.Rules.{refusal, unless}

-- the number of the rule, of 11 to 15, that refuses an event
unfoldable pub own_refusal : Settings → ArbiterEvent → ArbiterWorld → Option ℕ
own_refusal s (beside.One one) w = unless (not (is_yes_of_device one)) 11
own_refusal s (beside.PassWith advance one) w = unless (may_pass_with advance one w) 15
own_refusal s (beside.ArbiterBoot base) w = unless (not (is_arbiter_on w)) 12
own_refusal s beside.ArbiterCrash w = unless (is_arbiter_on w) 12
own_refusal s (beside.Poll rank) w = unless (may_poll s rank.0 w) 13
own_refusal s (beside.Hear number) w = option_or (unless (is_arbiter_on w) 12) (unless (may_hear number w) 14)
own_refusal s (beside.Reply number) w = unless (may_reply s number w) 14

-- the event of the nodes that the rules 1 to 10 judge
abbrev pub judged : ArbiterEvent → Option Event
judged (beside.One one) = Some one
judged (beside.PassWith advance one) = Some one
judged (beside.ArbiterBoot base) = None
judged beside.ArbiterCrash = None
judged (beside.Poll rank) = None
judged (beside.Hear number) = None
judged (beside.Reply number) = None

-- the number of the rule, of 1 to 10, that refuses the event of the nodes
abbrev pub nodes_refusal : Settings → Timing → ArbiterEvent → ArbiterWorld → Option ℕ
nodes_refusal s t event w = option_map_or (λ one. refusal s t one w.world) (judged event) None

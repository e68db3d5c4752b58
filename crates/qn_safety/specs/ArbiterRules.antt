-- Which events beside an arbiter are well formed, and which a rule refuses: this project's profile. Rules 1 to 10 are those
-- of the world without an arbiter.
use Rattle.std.specs.Prelude.{ℕ, Bool, true, false, Option, None, Some, ◌^◌, ◌&&◌, is_some, nat_le, nat_lt, not}
use Rattle.std.specs.Option.{option_map_or, option_or}
use Rattle.qn_model.specs.declared.configuration.Settings.{Settings}
use Rattle.qn_model.specs.declared.events.Event.{Event}
use Rattle.qn_model.specs.declared.events.Event.TheVariants as event
use Rattle.qn_model.specs.declared.times.Timing.{Timing}
use Rattle.qn_model.specs.Rules.{is_configured, is_on, is_well_formed, is_within_bounds, refusal, unless}
use Rattle.qn_safety.specs.declared.arbiter_event.ArbiterEvent.{ArbiterEvent}
use Rattle.qn_safety.specs.declared.arbiter_event.ArbiterEvent.TheVariants as beside
use Rattle.qn_safety.specs.ArbiterWorld.{ArbiterWorld, poll_at, reply_at, standing_at}

-- an event is well formed: its numbers are in range, and its ranks and members are configured
unfoldable pub is_well_formed_beside : Settings → ArbiterEvent → Bool
is_well_formed_beside s (beside.One one) = is_well_formed s one
is_well_formed_beside s (beside.PassWith advance one) = nat_le advance 1000000000000 && is_well_formed s one
is_well_formed_beside s (beside.ArbiterBoot base) = nat_le base 1000000000000000
is_well_formed_beside s beside.ArbiterCrash = true
is_well_formed_beside s (beside.Poll rank) = is_configured s rank.0
is_well_formed_beside s (beside.Hear number) = nat_lt number (2 ^ 64)
is_well_formed_beside s (beside.Reply number) = nat_lt number (2 ^ 64)

-- the true milliseconds that pass at an event, None where it is no pass
abbrev pub pass_of : Event → Option ℕ
pass_of (event.Pass dt clocks) = Some dt
pass_of (event.Boot rank base) = None
pass_of (event.BootClean rank base) = None
pass_of (event.Crash rank) = None
pass_of (event.Land rank) = None
pass_of (event.Done rank) = None
pass_of (event.Fail rank) = None
pass_of (event.Late rank number) = None
pass_of (event.View rank view) = None
pass_of (event.Deliver rank number) = None
pass_of (event.Device rank agrees) = None
pass_of (event.Tick rank) = None
pass_of (event.Stopped rank) = None
pass_of (event.Unstopped rank) = None
pass_of (event.Leave rank) = None
pass_of (event.Feed rank) = None
pass_of (event.Operator rank message) = None

-- the device says yes to a node at an event
abbrev pub is_yes_of_device : Event → Bool
is_yes_of_device (event.Device rank agrees) = agrees
is_yes_of_device (event.Pass dt clocks) = false
is_yes_of_device (event.Boot rank base) = false
is_yes_of_device (event.BootClean rank base) = false
is_yes_of_device (event.Crash rank) = false
is_yes_of_device (event.Land rank) = false
is_yes_of_device (event.Done rank) = false
is_yes_of_device (event.Fail rank) = false
is_yes_of_device (event.Late rank number) = false
is_yes_of_device (event.View rank view) = false
is_yes_of_device (event.Deliver rank number) = false
is_yes_of_device (event.Tick rank) = false
is_yes_of_device (event.Stopped rank) = false
is_yes_of_device (event.Unstopped rank) = false
is_yes_of_device (event.Leave rank) = false
is_yes_of_device (event.Feed rank) = false
is_yes_of_device (event.Operator rank message) = false

-- whether the arbiter runs
abbrev pub is_arbiter_on : ArbiterWorld → Bool
is_arbiter_on w = is_some w.arbiter

-- rule 13: the node is up and has a view
abbrev pub may_poll : Settings → ℕ → ArbiterWorld → Bool
may_poll s rank w = is_some (standing_at s rank w)

-- rule 14: the poll was sent; the reply was sent, and its node runs
abbrev pub may_hear : ℕ → ArbiterWorld → Bool
may_hear number w = is_some (poll_at number w)

abbrev pub may_reply : Settings → ℕ → ArbiterWorld → Bool
may_reply s number w = option_map_or (λ reply. is_on s reply.to.0 w.world) (reply_at number w) false

-- rule 15: the event is a pass, the arbiter runs, and its clock keeps its bounds
abbrev pub may_pass_with : ℕ → Event → ArbiterWorld → Bool
may_pass_with advance one w =
    option_map_or (λ dt. is_arbiter_on w && is_within_bounds dt advance) (pass_of one) false

-- the number of the rule that refuses an event, None where it is allowed. Rule 11: the device's yes comes from a reply alone.
-- Rule 12: the arbiter is off where it boots, and runs where it crashes or hears.
unfoldable pub refusal_beside : Settings → Timing → ArbiterEvent → ArbiterWorld → Option ℕ
refusal_beside s t (beside.One one) w = option_or (unless (not (is_yes_of_device one)) 11) (refusal s t one w.world)
refusal_beside s t (beside.PassWith advance one) w =
    option_or (unless (may_pass_with advance one w) 15) (refusal s t one w.world)
refusal_beside s t (beside.ArbiterBoot base) w = unless (not (is_arbiter_on w)) 12
refusal_beside s t beside.ArbiterCrash w = unless (is_arbiter_on w) 12
refusal_beside s t (beside.Poll rank) w = unless (may_poll s rank.0 w) 13
refusal_beside s t (beside.Hear number) w = option_or (unless (is_arbiter_on w) 12) (unless (may_hear number w) 14)
refusal_beside s t (beside.Reply number) w = unless (may_reply s number w) 14

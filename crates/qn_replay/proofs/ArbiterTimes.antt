-- The time that an event beside an arbiter takes.
use Rattle.std.proofs.Common.{◌≡◌, ◌∙◌, ◌+◌, ◌≤◌, Bool, true, Option, None, Some, ap, arith, nat_le}
use Rattle.std.specs.Option.{option_map, option_map_or}
use Rattle.std.proofs.lemmas.Bool.{and_parts}
use Rattle.qn_arbiter.specs.Standing.{ArbiterFor}
use Rattle.qn_arbiter.specs.Whole.{Whole}
use Rattle.qn_base.specs.declared.ids.Rank.{Rank}
use Rattle.qn_safety.specs.declared.arbiter_event.ArbiterEvent.{ArbiterEvent}
use Rattle.qn_safety.specs.declared.arbiter_event.ArbiterEvent.TheVariants as beside
use Rattle.qn_safety.specs.declared.lease.Lease.{Lease}
use Rattle.qn_safety.specs.declared.polls.Reply.{Reply}
use Rattle.qn_safety.specs.ArbiterRules.{is_well_formed_beside}
use Rattle.qn_safety.specs.ArbiterSteps.{device_event, played, reply_event, step_beside}
use Rattle.qn_safety.specs.ArbiterWorld.{ArbiterWorld, first_arbiter_world, reply_at}
use Rattle.qn_safety.specs.Poller.{answer_taken}
use Rattle.qn_model.specs.declared.configuration.Settings.{Settings}
use Rattle.qn_model.specs.declared.times.Timing.{Timing}
use Rattle.qn_model.specs.Moments.{tick_of, time}
use Rattle.qn_model.specs.Rules.{is_well_formed}
use Rattle.qn_model.specs.Steps.{step}
use Rattle.qn_model.specs.World.{World, node_at}
use Rattle.qn_playback.specs.Times.{time-step}

-- no time passes at what a node takes from a reply
device_step : (s : Settings) (t : Timing) (rank : Rank) (answer : Option Bool) (w : World) → time (step s t (device_event rank answer) w).moments ≤ time w.moments + 1000000000
unfolding step time
device_step s t rank None w = omega arith
device_step s t rank (Some agrees) w = omega arith

reply_step : (s : Settings) (t : Timing) (w : ArbiterWorld) (reply : Option Reply)
    → time (option_map_or (λ one. step s t one w.world) (option_map (reply_event s w) reply) w.world).moments ≤ time w.world.moments + 1000000000
reply_step s t w None = omega arith
reply_step s t w (Some reply) =
    device_step s t reply.to (answer_taken (tick_of (node_at s reply.to.0 w.world).clock) reply (w.pollers reply.to.0)) w.world

-- an event takes 1000000000 milliseconds at most
arbiter_time-step : (s : Settings) (t : Timing) (times : Lease) (e : ArbiterEvent) (w : ArbiterWorld) → is_well_formed_beside s e ≡ true
    → time (step_beside s t times e w).world.moments ≤ time w.world.moments + 1000000000
unfolding step_beside played is_well_formed_beside
arbiter_time-step s t times (beside.One one) w formed = time-step s t one w.world formed
arbiter_time-step s t times (beside.PassWith advance one) w formed =
    time-step s t one w.world (and_parts (nat_le advance 1000000000000) (is_well_formed s one) formed).1
arbiter_time-step s t times (beside.ArbiterBoot base) w formed = omega arith
arbiter_time-step s t times beside.ArbiterCrash w formed = omega arith
arbiter_time-step s t times (beside.Poll rank) w formed = omega arith
arbiter_time-step s t times (beside.Hear number) w formed = omega arith
arbiter_time-step s t times (beside.Reply number) w formed = reply_step s t w (reply_at number w)

-- the time of a world of the code is that of the world that it stands for
times_are : (w : Whole) (d : ArbiterWorld) → ArbiterFor w d → w.time ≡ time d.world.moments
times_are w d stands = ap (λ (whole : Whole). whole.time) stands.seen ∙ stands.stands.world.cluster.times

-- a world begins early
pub arbiter_starts_early : (w : Whole) (times : Lease) → ArbiterFor w (first_arbiter_world times) → w.time ≡ 0
unfolding time
arbiter_starts_early w times stands = times_are w (first_arbiter_world times) stands

pub arbiter_steps_later : (old new : Whole) (s : Settings) (t : Timing) (times : Lease) (e : ArbiterEvent) (world : ArbiterWorld) → is_well_formed_beside s e ≡ true → ArbiterFor old world
    → ArbiterFor new (step_beside s t times e world) → new.time ≤ old.time + 1000000000
arbiter_steps_later old new s t times e world formed stands stood =
    let before = times_are old world stands in
    let after = times_are new (step_beside s t times e world) stood in
    let later = arbiter_time-step s t times e world formed in
    omega (arith, before, after, later)

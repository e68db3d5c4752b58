-- Where a step of the world beside an arbiter needs memory: this project's profile.
use Rattle.std.specs.Prelude.{Bool, false, ◌||◌, is_some}
use Rattle.std.specs.Option.{option_map_or}
use Rattle.qn_safety.specs.declared.arbiter_event.ArbiterEvent.{ArbiterEvent}
use Rattle.qn_safety.specs.ArbiterSteps.{played, poll_sent, reply_sent}
use Rattle.qn_safety.specs.ArbiterWorld.{ArbiterWorld}
use Rattle.qn_model.specs.declared.configuration.Settings.{Settings}
use Rattle.qn_model.specs.declared.times.Timing.{Timing}
use Rattle.qn_world.specs.Memory.{needs_memory as nodes_need_memory}

-- a poll or a reply is sent, or the step of the nodes needs memory
abbrev pub needs_memory : Settings → Timing → ArbiterEvent → ArbiterWorld → Bool
needs_memory s t event w =
    is_some (poll_sent s event w) || is_some (reply_sent event w)
    || option_map_or (λ one. nodes_need_memory s t one w.world) (played s event w) false

-- Where a step of the world needs memory: this project's profile.
use Rattle.std.specs.Prelude.{Bool, false, length, nat_lt, ◌||◌}
use Rattle.std.specs.Option.{option_map_or}
use Rattle.qn_model.specs.declared.configuration.Settings.{Settings}
use Rattle.qn_model.specs.declared.events.Event.{Event}
use Rattle.qn_model.specs.declared.times.Timing.{Timing}
use Rattle.qn_model.specs.Moments.{packets}
use Rattle.qn_model.specs.World.{World}
use Rattle.qn_model.specs.Steps.{step, touched}

-- a step appends a packet
abbrev pub sends_between : Settings → World → World → Bool
sends_between s before after = nat_lt (length (packets s before.moments)) (length (packets s after.moments))

-- a step appends a leftover of the node that it touches
abbrev pub leaves_between : Event → World → World → Bool
leaves_between event before after =
    option_map_or (λ rank. nat_lt (length (before.left rank.0)) (length (after.left rank.0))) (touched event) false

-- the step of an event appends a packet or a leftover
abbrev pub needs_memory : Settings → Timing → Event → World → Bool
needs_memory s t event before =
    sends_between s before (step s t event before) || leaves_between event before (step s t event before)

-- Where a step of the world of three images needs memory: this project's profile.
use Rattle.std.specs.Prelude.{ℕ, Bool, false, length, nat_lt, ◌||◌}
use Rattle.std.specs.Option.{option_map_or}
use Rattle.qn_cluster.specs.Stepping.{grows}
use Rattle.qn_model.specs.declared.configuration.Settings.{Settings}
use Rattle.qn_model.specs.declared.times.Timing.{Timing}
use Rattle.qn_model.specs.Steps.{touched}
use Rattle.qn_safety.specs.declared.triple_event.TripleEvent.{TripleEvent}
use Rattle.qn_safety.specs.TripleSteps.{as_one, step_triple}
use Rattle.qn_safety.specs.TripleWorld.{TripleWorld}

-- a step appends a leftover of a rank on an image
abbrev pub leaves_on : ℕ → ℕ → TripleWorld → TripleWorld → Bool
leaves_on rank image before after = nat_lt (length (before.left rank image)) (length (after.left rank image))

-- a step appends a leftover of a rank
abbrev pub leaves_one : ℕ → TripleWorld → TripleWorld → Bool
leaves_one rank before after = leaves_on rank 1 before after || leaves_on rank 2 before after || leaves_on rank 3 before after

-- a step appends a leftover of the node that it touches
abbrev pub leaves_between : TripleEvent → TripleWorld → TripleWorld → Bool
leaves_between event before after = option_map_or (λ rank. leaves_one rank.0 before after) (touched (as_one event)) false

-- the step of an event appends a packet or a leftover
abbrev pub needs_memory : Settings → Timing → TripleEvent → TripleWorld → Bool
needs_memory s t event before =
    grows s before.moments (step_triple s t event before).moments || leaves_between event before (step_triple s t event before)

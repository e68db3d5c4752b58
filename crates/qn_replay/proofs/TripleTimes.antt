-- The time that an event of the world of three images takes.
use Rattle.std.proofs.Common.{◌≡◌, ◌+◌, ◌≤◌, true, Option, None, Some, refl, arith}
use Rattle.std.specs.Option.{option_map_or}
use Rattle.qn_model.specs.declared.configuration.Settings.{Settings}
use Rattle.qn_model.specs.declared.events.Event.{Event}
use Rattle.qn_model.specs.declared.events.Event.TheVariants as event
use Rattle.qn_model.specs.declared.times.Timing.{Timing}
use Rattle.qn_model.specs.Moments.{time}
use Rattle.qn_model.specs.Rules.{is_well_formed}
use Rattle.qn_model.specs.World.{numbered}
use Rattle.qn_playback.specs.Times.{time-step}
use Rattle.qn_safety.specs.declared.triple_event.TripleEvent.{TripleEvent}
use Rattle.qn_safety.specs.declared.triple_event.TripleEvent.TheVariants as triple
use Rattle.qn_safety.specs.TripleRules.{is_well_formed_triple}
use Rattle.qn_safety.specs.TripleSteps.{done_triple, failed_on, landed_on, lands_late_on, step_of_one, step_triple}
use Rattle.qn_safety.specs.TripleWorld.{TripleWorld, first_triple, nodes_of, op_of}
use Rattle.qn_triple.specs.Standing.{TripleFor}
use Rattle.qn_triple.specs.Whole.{Whole}

same_moments : {A : Type 0} (o : Option A) (f : A → TripleWorld) (w : TripleWorld) → ((a : A) → time (f a).moments ≡ time w.moments) → time (option_map_or f o w).moments ≡ time w.moments
same_moments None f w same = refl
same_moments (Some a) f w same = same a

-- an event that names no image takes 1000000000 milliseconds at most
one_step : (s : Settings) (t : Timing) (e : Event) (w : TripleWorld) → is_well_formed s e ≡ true → time (step_of_one s t e w).moments ≤ time w.moments + 1000000000
unfolding time
one_step s t (event.Land rank) w formed = omega arith
one_step s t (event.Fail rank) w formed = omega arith
one_step s t (event.Late rank number) w formed = omega arith
one_step s t (event.Operator rank message) w formed = omega arith
one_step s t (event.Boot rank base) w formed = omega arith
one_step s t (event.BootClean rank base) w formed = omega arith
one_step s t (event.Crash rank) w formed = omega arith
one_step s t (event.Done rank) w formed = let same = same_moments (op_of s rank.0 w) (λ op. done_triple rank.0 op w) w (λ op. refl) in omega (arith, same)
one_step s t (event.Pass dt clocks) w formed = time-step s t (event.Pass dt clocks) (nodes_of w) formed
one_step s t (event.View rank view) w formed = time-step s t (event.View rank view) (nodes_of w) formed
one_step s t (event.Deliver rank number) w formed = time-step s t (event.Deliver rank number) (nodes_of w) formed
one_step s t (event.Device rank agrees) w formed = time-step s t (event.Device rank agrees) (nodes_of w) formed
one_step s t (event.Tick rank) w formed = time-step s t (event.Tick rank) (nodes_of w) formed
one_step s t (event.Stopped rank) w formed = time-step s t (event.Stopped rank) (nodes_of w) formed
one_step s t (event.Unstopped rank) w formed = time-step s t (event.Unstopped rank) (nodes_of w) formed
one_step s t (event.Leave rank) w formed = time-step s t (event.Leave rank) (nodes_of w) formed
one_step s t (event.Feed rank) w formed = time-step s t (event.Feed rank) (nodes_of w) formed

-- an event takes 1000000000 milliseconds at most
triple_time-step : (s : Settings) (t : Timing) (e : TripleEvent) (w : TripleWorld) → is_well_formed_triple s e ≡ true → time (step_triple s t e w).moments ≤ time w.moments + 1000000000
unfolding step_triple is_well_formed_triple
triple_time-step s t (triple.One event) w formed = one_step s t event w formed
triple_time-step s t (triple.LandOn rank image) w formed =
    let same = same_moments (op_of s rank.0 w) (λ op. landed_on s t rank.0 image op w) w (λ op. refl) in omega (arith, same)
triple_time-step s t (triple.FailOn rank image) w formed =
    let same = same_moments (op_of s rank.0 w) (λ op. failed_on rank.0 image op w) w (λ op. refl) in omega (arith, same)
triple_time-step s t (triple.LateOn rank image number) w formed =
    let same = same_moments (numbered (w.left rank.0 image) number) (λ op. lands_late_on rank.0 image number op w) w (λ op. refl) in omega (arith, same)
triple_time-step s t (triple.OperatorOn rank image message) w formed = omega arith

-- a world begins early
pub triple_starts_early : (w : Whole) → TripleFor w first_triple → w.time ≡ 0
unfolding time
triple_starts_early w stands = let same = stands.cluster.times in omega (arith, same)

pub triple_steps_later : (old new : Whole) (s : Settings) (t : Timing) (e : TripleEvent) (world : TripleWorld) → is_well_formed_triple s e ≡ true → TripleFor old world
    → TripleFor new (step_triple s t e world) → new.time ≤ old.time + 1000000000
triple_steps_later old new s t e world formed stands stood =
    let before = stands.cluster.times in
    let after = stood.cluster.times in
    let later = triple_time-step s t e world formed in
    omega (arith, before, after, later)

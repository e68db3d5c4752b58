-- The time that an event of a world takes.
use Rattle.std.proofs.Common.{◌≡◌, ◌+◌, ◌≤◌, ℕ, true, ◌&&◌, Option, None, Some, refl, arith, nat_le}
use Rattle.std.specs.Prelude.{map, slice_get}
use Rattle.std.specs.List.{list_all}
use Rattle.std.specs.Option.{option_map_or}
use Rattle.std.proofs.lemmas.Bool.{and_parts, leb-true}
use Rattle.qn_base.specs.declared.ids.Rank.{Rank}
use Rattle.qn_model.specs.declared.configuration.Settings.{Settings}
use Rattle.qn_model.specs.declared.events.Event.{Event}
use Rattle.qn_model.specs.declared.events.Event.TheVariants as event
use Rattle.qn_model.specs.declared.packets.Sent.{Sent}
use Rattle.qn_model.specs.declared.times.Timing.{Timing}
use Rattle.qn_model.specs.Lines.{is_ascending}
use Rattle.qn_model.specs.Moments.{Adds, packets, time}
use Rattle.qn_model.specs.Rules.{is_between, is_clock, is_well_formed}
use Rattle.qn_model.specs.Steps.{answered, entry_of, fails, happens, landed, lands_late, step}
use Rattle.qn_model.specs.World.{World, numbered, op_at}

same_moments : {A : Type 0} (o : Option A) (f : A → World) (w : World) → ((a : A) → time (f a).moments ≡ time w.moments) → time (option_map_or f o w).moments ≡ time w.moments
same_moments None f w same = refl
same_moments (Some a) f w same = same a

-- an event takes 1000000000 milliseconds at most
pub time-step : (s : Settings) (t : Timing) (e : Event) (w : World) → is_well_formed s e ≡ true → time (step s t e w).moments ≤ time w.moments + 1000000000
unfolding step time is_well_formed
time-step s t (event.Pass dt clocks) w formed =
    let all = and_parts (is_between 1 1000000000 dt && list_all (is_clock s) clocks) (is_ascending (map (λ (clock : Rank × ℕ). clock.0.0) clocks)) formed in
    let first = and_parts (is_between 1 1000000000 dt) (list_all (is_clock s) clocks) all.0 in
    let below = leb-true dt 1000000000 (and_parts (nat_le 1 dt) (nat_le dt 1000000000) first.0).1 in
    omega (arith, below)
time-step s t (event.Boot rank base) w formed = omega arith
time-step s t (event.BootClean rank base) w formed = omega arith
time-step s t (event.Crash rank) w formed = omega arith
time-step s t (event.Land rank) w formed = let same = same_moments (op_at s rank.0 w) (λ op. landed s t rank.0 op w) w (λ op. refl) in omega (arith, same)
time-step s t (event.Done rank) w formed = let same = same_moments (w.took rank.0) (λ entry. answered rank.0 entry w) w (λ entry. refl) in omega (arith, same)
time-step s t (event.Fail rank) w formed = let same = same_moments (op_at s rank.0 w) (λ op. fails s rank.0 op w) w (λ op. refl) in omega (arith, same)
time-step s t (event.Late rank number) w formed = let same = same_moments (numbered (w.left rank.0) number) (λ op. lands_late rank.0 number op w) w (λ op. refl) in omega (arith, same)
time-step s t (event.View rank view) w formed = omega arith
time-step s t (event.Deliver rank number) w formed =
    let same = same_moments (slice_get (packets s w.moments) number) (λ (sent : Sent). happens (Adds rank.0 (entry_of sent.packet)) w) w (λ sent. refl) in
    omega (arith, same)
time-step s t (event.Device rank agrees) w formed = omega arith
time-step s t (event.Tick rank) w formed = omega arith
time-step s t (event.Stopped rank) w formed = omega arith
time-step s t (event.Unstopped rank) w formed = omega arith
time-step s t (event.Leave rank) w formed = omega arith
time-step s t (event.Feed rank) w formed = omega arith
time-step s t (event.Operator rank message) w formed = omega arith

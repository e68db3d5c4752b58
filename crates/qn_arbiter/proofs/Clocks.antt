-- The true time after an event, and the clock of an arbiter.
use Rattle.std.proofs.Common.{◌≡◌, ℕ, ◌+◌, ◌*◌, ◌≤◌, true, None, Some, Option, subst, arith}
use Rattle.std.proofs.lemmas.Bool.{leb-true}
use Rattle.std.specs.Prelude.{nat_le, slice_get, unwrap_or}
use Rattle.std.specs.List.{list_all}
use Rattle.std.specs.Option.{option_map, option_map_or}
use Rattle.qn_base.specs.lemmas.Bools.{first_of_both, second_of_both}
use Rattle.qn_safety.specs.ArbiterRules.{pass_of}
use Rattle.qn_safety.specs.ArbiterSteps.{advanced_arbiter}
use Rattle.qn_safety.specs.ArbiterWorld.{Arbiter}
use Rattle.qn_model.specs.declared.configuration.Settings.{Settings}
use Rattle.qn_model.specs.declared.events.Event.{Event}
use Rattle.qn_model.specs.declared.events.Event.TheVariants as event
use Rattle.qn_model.specs.declared.times.Timing.{Timing}
use Rattle.qn_model.specs.Moments.{Adds, packets, time}
use Rattle.qn_model.specs.Rules.{is_between, is_clock, is_well_formed}
use Rattle.qn_model.specs.Steps.{answered, entry_of, fails, happens, landed, lands_late, step}
use Rattle.qn_model.specs.World.{World, numbered, op_at}
use Rattle.qn_arbiter.specs.declared.running.RunningArbiter.{RunningArbiter}
use Rattle.qn_arbiter.specs.Standing.{HasRoomFor, IsEarly, RunsFor, RunsOrOff}

same_time : {A : Type 0} (o : Option A) (f : A → World) (w : World) → ((x : A) → time w.moments ≤ time (f x).moments) → time w.moments + 0 ≤ time (option_map_or f o w).moments
same_time None f w each = omega arith
same_time (Some x) f w each = let h = each x in omega arith

-- time never falls, and rises by what a pass says
pub time_after : (s : Settings) (t : Timing) (one : Event) (w : World) → time w.moments + unwrap_or (pass_of one) 0 ≤ time (step s t one w).moments
unfolding step time
time_after s t (event.Pass dt clocks) w = omega arith
time_after s t (event.Boot rank base) w = omega arith
time_after s t (event.BootClean rank base) w = omega arith
time_after s t (event.Crash rank) w = omega arith
time_after s t (event.Land rank) w = same_time (op_at s rank.0 w) (λ op. landed s t rank.0 op w) w (λ op. omega arith)
time_after s t (event.Done rank) w = same_time (w.took rank.0) (λ entry. answered rank.0 entry w) w (λ entry. omega arith)
time_after s t (event.Fail rank) w = same_time (op_at s rank.0 w) (λ op. fails s rank.0 op w) w (λ op. omega arith)
time_after s t (event.Late rank number) w = same_time (numbered (w.left rank.0) number) (λ op. lands_late rank.0 number op w) w (λ op. omega arith)
time_after s t (event.View rank view) w = omega arith
time_after s t (event.Deliver rank number) w =
    same_time (slice_get (packets s w.moments) number) (λ sent. happens (Adds rank.0 (entry_of sent.packet)) w) w (λ sent. omega arith)
time_after s t (event.Device rank agrees) w = omega arith
time_after s t (event.Tick rank) w = omega arith
time_after s t (event.Stopped rank) w = omega arith
time_after s t (event.Unstopped rank) w = omega arith
time_after s t (event.Leave rank) w = omega arith
time_after s t (event.Feed rank) w = omega arith
time_after s t (event.Operator rank message) w = omega arith

-- a well formed pass is short
pub short_pass : (s : Settings) (one : Event) → is_well_formed s one ≡ true → unwrap_or (pass_of one) 0 ≤ 1000000000
unfolding is_well_formed
short_pass s (event.Pass dt clocks) formed =
    let in_range : is_between 1 1000000000 dt ≡ true = first_of_both _ (list_all (is_clock s) clocks) (first_of_both _ _ formed) in
    leb-true dt 1000000000 (second_of_both (nat_le 1 dt) _ in_range)
short_pass s (event.Boot rank base) formed = omega arith
short_pass s (event.BootClean rank base) formed = omega arith
short_pass s (event.Crash rank) formed = omega arith
short_pass s (event.Land rank) formed = omega arith
short_pass s (event.Done rank) formed = omega arith
short_pass s (event.Fail rank) formed = omega arith
short_pass s (event.Late rank number) formed = omega arith
short_pass s (event.View rank view) formed = omega arith
short_pass s (event.Deliver rank number) formed = omega arith
short_pass s (event.Device rank agrees) formed = omega arith
short_pass s (event.Tick rank) formed = omega arith
short_pass s (event.Stopped rank) formed = omega arith
short_pass s (event.Unstopped rank) formed = omega arith
short_pass s (event.Leave rank) formed = omega arith
short_pass s (event.Feed rank) formed = omega arith
short_pass s (event.Operator rank message) formed = omega arith

-- the clock of an arbiter over a pass
pub early_after : (a : Option Arbiter) (now later hundredths dt : ℕ) → hundredths ≤ 101 * dt → now + dt ≤ later → IsEarly a now
    → IsEarly (option_map (advanced_arbiter hundredths) a) later
early_after None now later hundredths dt bound on early = tt
early_after (Some arbiter) now later hundredths dt bound on early = omega arith

pub early_still : (a : Option Arbiter) (now later : ℕ) → now ≤ later → IsEarly a now → IsEarly a later
early_still None now later on early = tt
early_still (Some arbiter) now later on early = omega arith

pub has_room : (a : Option RunningArbiter) (b : Option Arbiter) (now hundredths : ℕ) → RunsOrOff a b → IsEarly b now → now ≤ 10000000000000000
    → hundredths ≤ 1000000000000 → HasRoomFor a hundredths
has_room None None now hundredths runs early on few = tt
has_room None (Some arbiter) now hundredths runs early on few = absurd runs
has_room (Some running) None now hundredths runs early on few = absurd runs
has_room (Some running) (Some arbiter) now hundredths runs early on few = let same = runs.clock in omega arith

-- a change of an arbiter that runs
pub runs_on : (o : Option RunningArbiter) (running new : RunningArbiter) (theirs : Option Arbiter) (change : Arbiter → Arbiter) → o ≡ Some running
    → ((arbiter : Arbiter) → RunsFor running arbiter → RunsFor new (change arbiter)) → RunsOrOff o theirs → RunsOrOff (Some new) (option_map change theirs)
runs_on o running new None change is changes runs = absurd (subst (λ o. RunsOrOff o None) is runs)
runs_on o running new (Some arbiter) change is changes runs = changes arbiter (subst (λ o. RunsOrOff o (Some arbiter)) is runs)

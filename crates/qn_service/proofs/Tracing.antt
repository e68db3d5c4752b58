-- The worlds of the joints from one joint to another, one after another, and the moments of each.
use Rattle.std.proofs.Common.{◌≡◌, ◌⊎◌, inl, inr, ℕ, List, [], ◌∷◌, ◌++◌, refl, arith}
use Rattle.qn_model.specs.declared.configuration.Settings.{Settings}
use Rattle.qn_model.specs.declared.events.Event.{Event}
use Rattle.qn_model.specs.declared.times.Timing.{Timing}
use Rattle.qn_model.specs.Moments.{Before, Itself, Later, Moment}
use Rattle.qn_model.specs.Steps.{run}
use Rattle.qn_safety.specs.AnyNumbers.{AllMay}
use Rattle.qn_safety.specs.Earlier.{before_length, before_same, before_then}
use Rattle.qn_joined.specs.Joints.{AllMayHappen, FitsImage, Happening, joint_after}
use Rattle.qn_joined.specs.Moves.{EachIsOneEvent, HasStepped, IsEventOf}
use Rattle.qn_joined.specs.WorldOf.{HasWorld, IsWorld}
use Rattle.qn_service.specs.Between.{IsOfJoint}
use Rattle.qn_service.proofs.Between.{Added, NoneMore, OneMore, grown, one_adds, split_at}

-- the worlds of an older joint, which these events led to, and of each joint after it, up to a newer one
pub data Trace (s : Settings) (t : Timing) (image : ℕ → List ℕ) (older : List Happening) (first : List Event) : List Happening → List Event → Type 0 where
  Starts : AllMay s t first → IsWorld s t (joint_after s image older) (run s t first) → Trace s t image older first older first
  Goes : {newer : List Happening} {events events' : List Event} (newest : Happening) → Trace s t image older first newer events → AllMay s t events'
      → IsWorld s t (joint_after s image (newest ∷ newer)) (run s t events') → Added (run s t events).moments (run s t events').moments
      → Trace s t image older first (newest ∷ newer) events'

pub record Traced (s : Settings) (t : Timing) (image : ℕ → List ℕ) (older : List Happening) (first : List Event) (newer : List Happening) : Type 0 where
  pub events : List Event
  pub trace : Trace s t image older first newer events

pub last_world : {s : Settings} {t : Timing} {image : ℕ → List ℕ} {older : List Happening} {first : List Event} {newer : List Happening} {events : List Event} → Trace s t image older first newer events
    → AllMay s t events × IsWorld s t (joint_after s image newer) (run s t events)
last_world (Starts may world) = (may, world)
last_world (Goes newest trace may world added) = (may, world)

steps_on : (s : Settings) (t : Timing) (image : ℕ → List ℕ) (newest : Happening) (newer older : List Happening) (first : List Event)
    → (before : Traced s t image older first (newer ++ older))
    → HasStepped s t (IsEventOf newest (joint_after s image (newer ++ older))) before.events (joint_after s image (newest ∷ newer ++ older))
    → Traced s t image older first (newest ∷ newer ++ older)
steps_on s t image newest newer older first before after =
    record { events = after.events'; trace = Goes newest before.trace after.may after.world (one_adds s t before.events after.events' after.one) }

pub traced : (s : Settings) (t : Timing) → EachIsOneEvent s t → FitsImage s t → (image : ℕ → List ℕ) (newer older : List Happening) → AllMayHappen s t image (newer ++ older)
    → (has : HasWorld s t (joint_after s image older)) → Traced s t image older has.events (newer ++ older)
unfolding joint_after AllMayHappen
traced s t one fits image [] older may has = record { events = has.events; trace = Starts has.may has.world }
traced s t one fits image (newest ∷ newer) older may has =
    let before = traced s t one fits image newer older may.1 has in
    let last = last_world before.trace in
    steps_on s t image newest newer older has.events before
    (one (joint_after s image (newer ++ older)) newest fits (record { events = before.events; may = last.0; world = last.1 }) may.0)

-- the joints grow, and so do the moments
pub joints_grow : {s : Settings} {t : Timing} {image : ℕ → List ℕ} {older : List Happening} {first : List Event} {newer : List Happening} {events : List Event} → Trace s t image older first newer events → Before older newer
joints_grow (Starts may world) = Itself
joints_grow (Goes newest trace may world added) = Later newest (joints_grow trace)

pub moments_grow : {s : Settings} {t : Timing} {image : ℕ → List ℕ} {older : List Happening} {first : List Event} {newer : List Happening} {events : List Event} → Trace s t image older first newer events
    → Before (run s t first).moments (run s t events).moments
moments_grow (Starts may world) = Itself
moments_grow (Goes newest trace may world added) = before_then (moments_grow trace) (grown added)

-- each moment between is that of a joint between
pub of_joint : {s : Settings} {t : Timing} {image : ℕ → List ℕ} {older : List Happening} {first : List Event} {newer : List Happening} {events : List Event} → Trace s t image older first newer events
    → (moments : List Moment) → Before (run s t first).moments moments → Before moments (run s t events).moments → IsOfJoint s t image older newer moments
of_joint {older = older} {first = first} (Starts may world) moments since back =
    record { at = older; after = Itself; back = Itself; events = first; may = may; same = before_same since (before_length back); world = world }
of_joint {s = s} {t = t} {image = image} {older = older} (Goes {newer = newer} {events = events} {events' = events'} newest trace may world added) moments since back =
    by_place (split_at added back) (λ earlier. of_joint trace moments since earlier)
  where
    later : IsOfJoint s t image older newer moments → IsOfJoint s t image older (newest ∷ newer) moments
    later is = record { at = is.at; after = is.after; back = Later newest is.back; events = is.events; may = is.may; same = is.same; world = is.world }

    by_place : ((run s t events').moments ≡ moments) ⊎ Before moments (run s t events).moments
        → (Before moments (run s t events).moments → IsOfJoint s t image older newer moments) → IsOfJoint s t image older (newest ∷ newer) moments
    by_place (inl same) rest =
        record { at = newest ∷ newer; after = Later newest (joints_grow trace); back = Itself; events = events'; may = may; same = same; world = world }
    by_place (inr earlier) rest = later (rest earlier)

-- One happening between: the worlds before and after it, and those on both sides of it.
pub record StepOf (s : Settings) (t : Timing) (image : ℕ → List ℕ) (older newer at : List Happening) (happening : Happening) (first events : List Event) : Type 0 where
  pub old : List Event
  pub new : List Event
  pub before : Trace s t image older first at old
  pub added : Added (run s t old).moments (run s t new).moments
  pub after : Trace s t image (happening ∷ at) new newer events

-- a happening between is a step
pub step_of : {s : Settings} {t : Timing} {image : ℕ → List ℕ} {older : List Happening} {first : List Event} {newer : List Happening} {events : List Event} → Trace s t image older first newer events
    → (at : List Happening) (happening : Happening) → Before older at → Before (happening ∷ at) newer → StepOf s t image older newer at happening first events
step_of (Starts may world) at happening since back = absurd (let one = before_length since in let two = before_length back in omega arith)
step_of (Goes {events = old} {events' = new} newest trace may world added) at happening since Itself =
    record { old = old; new = new; before = trace; added = added; after = Starts may world }
step_of (Goes newest trace may world added) at happening since (Later newest' back) =
    let step = step_of trace at happening since back in
    record { old = step.old; new = step.new; before = step.before; added = step.added; after = Goes newest step.after may world added }

-- one moment between is that of a step
pub record StepAt (s : Settings) (t : Timing) (image : ℕ → List ℕ) (older newer : List Happening) (first events : List Event) (moment : Moment) (before : List Moment) : Type 0 where
  pub at : List Happening
  pub happening : Happening
  pub since : Before older at
  pub back : Before (happening ∷ at) newer
  pub step : StepOf s t image older newer at happening first events
  pub was : (run s t step.old).moments ≡ before
  pub is : (run s t step.new).moments ≡ moment ∷ before

-- the newest moment is the one that was added, or was there before
pub newest_of : {old new : List Moment} (moment : Moment) (before : List Moment) → Added old new → Before (moment ∷ before) new
    → ((old ≡ before) × (new ≡ moment ∷ before)) ⊎ Before (moment ∷ before) old
newest_of moment before NoneMore back = inr back
newest_of moment before (OneMore newest) Itself = inl (refl, refl)
newest_of moment before (OneMore newest) (Later other back) = inr back

pub step_at : {s : Settings} {t : Timing} {image : ℕ → List ℕ} {older : List Happening} {first : List Event} {newer : List Happening} {events : List Event} → Trace s t image older first newer events
    → (moment : Moment) (before : List Moment) → Before (run s t first).moments before → Before (moment ∷ before) (run s t events).moments
    → StepAt s t image older newer first events moment before
step_at (Starts may world) moment before since back = absurd (let one = before_length since in let two = before_length back in omega arith)
step_at {s = s} {t = t} {image = image} {older = older} {first = first} (Goes {newer = newer} {events = old} {events' = new} newest trace may world added) moment before since back =
    by_place (newest_of moment before added back) (λ earlier. step_at trace moment before since earlier)
  where
    later : StepAt s t image older newer first old moment before → StepAt s t image older (newest ∷ newer) first new moment before
    later found =
        record {
          at = found.at;
          happening = found.happening;
          since = found.since;
          back = Later newest found.back;
          step = record { old = found.step.old; new = found.step.new; before = found.step.before; added = found.step.added; after = Goes newest found.step.after may world added };
          was = found.was;
          is = found.is;
        }

    by_place : (((run s t old).moments ≡ before) × ((run s t new).moments ≡ moment ∷ before)) ⊎ Before (moment ∷ before) (run s t old).moments
        → (Before (moment ∷ before) (run s t old).moments → StepAt s t image older newer first old moment before)
        → StepAt s t image older (newest ∷ newer) first new moment before
    by_place (inl same) rest =
        record {
          at = newer;
          happening = newest;
          since = joints_grow trace;
          back = Itself;
          step = record { old = old; new = new; before = trace; added = added; after = Starts may world };
          was = same.0;
          is = same.1;
        }
    by_place (inr earlier) rest = later (rest earlier)

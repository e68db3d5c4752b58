-- The moments between the worlds of two joints are those of joints between.
use Rattle.std.proofs.Common.{◌≡◌, ◌⊎◌, inl, inr, ℕ, List, [], ◌∷◌, ◌++◌, Option, None, Some, refl, sym, subst}
use Rattle.std.specs.Prelude.{slice_get}
use Rattle.std.specs.Option.{option_map_or, option_to_list}
use Rattle.qn_model.specs.declared.configuration.Settings.{Settings}
use Rattle.qn_model.specs.declared.entries.What.{What}
use Rattle.qn_model.specs.declared.events.Event.{Event}
use Rattle.qn_model.specs.declared.events.Event.TheVariants as event
use Rattle.qn_model.specs.declared.outputs.DiskOp.{DiskOp}
use Rattle.qn_model.specs.declared.packets.Sent.{Sent}
use Rattle.qn_model.specs.declared.times.Timing.{Timing}
use Rattle.qn_model.specs.Moments.{Adds, Before, Itself, Later, Moment, packets}
use Rattle.qn_model.specs.Steps.{answered, entry_of, fails, happens, landed, lands_late, run, step}
use Rattle.qn_model.specs.World.{World, numbered, op_at}
use Rattle.qn_safety.specs.Earlier.{before_joined, before_length, before_same, before_then}
use Rattle.qn_joined.specs.Joints.{AllMayHappen, FitsImage, Happening, joint_after}
use Rattle.qn_joined.specs.Moves.{AddsOne, EachIsOneEvent, HasStepped, IsEventOf}
use Rattle.qn_joined.specs.WorldOf.{HasWorld}
use Rattle.qn_service.specs.Between.{HasMoments, IsOfJoint, MomentsAreOfJoints}

-- moments stay, or there is one more
pub data Added (old : List Moment) : List Moment → Type 0 where
  NoneMore : Added old old
  OneMore : (newest : Moment) → Added old (newest ∷ old)

step_adds : (s : Settings) (t : Timing) (e : Event) (w : World) → Added w.moments (step s t e w).moments
unfolding step
step_adds s t (event.Pass dt clocks) w = OneMore _
step_adds s t (event.Boot rank base) w = OneMore _
step_adds s t (event.BootClean rank base) w = OneMore _
step_adds s t (event.Crash rank) w = OneMore _
step_adds s t (event.Land rank) w = by_op (op_at s rank.0 w)
  where
    by_op : (o : Option DiskOp) → Added w.moments (option_map_or (λ op. landed s t rank.0 op w) o w).moments
    by_op None = NoneMore
    by_op (Some op) = NoneMore
step_adds s t (event.Done rank) w = by_took (w.took rank.0)
  where
    by_took : (o : Option What) → Added w.moments (option_map_or (λ entry. answered rank.0 entry w) o w).moments
    by_took None = NoneMore
    by_took (Some entry) = OneMore _
step_adds s t (event.Fail rank) w = by_op (op_at s rank.0 w)
  where
    by_op : (o : Option DiskOp) → Added w.moments (option_map_or (λ op. fails s rank.0 op w) o w).moments
    by_op None = NoneMore
    by_op (Some op) = OneMore _
step_adds s t (event.Late rank number) w = by_op (numbered (w.left rank.0) number)
  where
    by_op : (o : Option DiskOp) → Added w.moments (option_map_or (λ op. lands_late rank.0 number op w) o w).moments
    by_op None = NoneMore
    by_op (Some op) = NoneMore
step_adds s t (event.View rank view) w = OneMore _
step_adds s t (event.Deliver rank number) w = by_sent (slice_get (packets s w.moments) number)
  where
    by_sent : (o : Option Sent) → Added w.moments (option_map_or (λ sent. happens (Adds rank.0 (entry_of sent.packet)) w) o w).moments
    by_sent None = NoneMore
    by_sent (Some sent) = OneMore _
step_adds s t (event.Device rank agrees) w = OneMore _
step_adds s t (event.Tick rank) w = OneMore _
step_adds s t (event.Stopped rank) w = OneMore _
step_adds s t (event.Unstopped rank) w = OneMore _
step_adds s t (event.Leave rank) w = OneMore _
step_adds s t (event.Feed rank) w = OneMore _
step_adds s t (event.Operator rank message) w = NoneMore

-- one event at most adds one moment at most
pub one_adds : (s : Settings) (t : Timing) {P : Option Event → Type 0} (events events' : List Event) → AddsOne P events events' → Added (run s t events).moments (run s t events').moments
unfolding run
one_adds s t events events' one = subst (λ e. Added (run s t events).moments (run s t e).moments) (sym one.grew) (by_event one.event)
  where
    by_event : (o : Option Event) → Added (run s t events).moments (run s t (option_to_list o ++ events)).moments
    by_event None = NoneMore
    by_event (Some e) = step_adds s t e (run s t events)

pub grown : {old new : List Moment} → Added old new → Before old new
grown NoneMore = Itself
grown (OneMore newest) = Later newest Itself

-- what is before the newer moments is the newer ones, or is before the older ones
pub split_at : {old new moments : List Moment} → Added old new → Before moments new → (new ≡ moments) ⊎ Before moments old
split_at NoneMore back = inr back
split_at (OneMore newest) Itself = inl refl
split_at (OneMore newest) (Later other back) = inr back

module _ (s : Settings) (t : Timing) (one : EachIsOneEvent s t) (fits : FitsImage s t) (image : ℕ → List ℕ) where
  later_joint : {older newer : List Happening} {moments : List Moment} (newest : Happening) → IsOfJoint s t image older newer moments → IsOfJoint s t image older (newest ∷ newer) moments
  later_joint newest is =
      record { at = is.at; after = is.after; back = Later newest is.back; events = is.events; may = is.may; same = is.same; world = is.world }

  steps_on : (newest : Happening) (newer older : List Happening) (events : List Event)
      → (before : HasMoments s t image older (newer ++ older) events)
      → (after : HasStepped s t (IsEventOf newest (joint_after s image (newer ++ older))) before.events' (joint_after s image (newest ∷ newer ++ older)))
      → HasMoments s t image older (newest ∷ newer ++ older) events
  steps_on newest newer older events before after =
      record {
        events' = after.events';
        may = after.may;
        world = after.world;
        grew = before_then before.grew (grown added);
        each = λ moments since back. by_place moments since (split_at added back);
      }
    where
      added : Added (run s t before.events').moments (run s t after.events').moments
      added = one_adds s t before.events' after.events' after.one

      by_place : (moments : List Moment) → Before (run s t events).moments moments
          → ((run s t after.events').moments ≡ moments) ⊎ Before moments (run s t before.events').moments
          → IsOfJoint s t image older (newest ∷ newer ++ older) moments
      by_place moments since (inl same) =
          record {
            at = newest ∷ newer ++ older;
            after = Later newest (before_joined newer older);
            back = Itself;
            events = after.events';
            may = after.may;
            same = same;
            world = after.world;
          }
      by_place moments since (inr back) = later_joint newest (before.each moments since back)

  grows_by : (newer older : List Happening) → AllMayHappen s t image (newer ++ older) → (has : HasWorld s t (joint_after s image older))
      → HasMoments s t image older (newer ++ older) has.events
  unfolding joint_after AllMayHappen
  grows_by [] older may has =
      record {
        events' = has.events;
        may = has.may;
        world = has.world;
        grew = Itself;
        each = λ moments since back. record {
          at = older;
          after = Itself;
          back = Itself;
          events = has.events;
          may = has.may;
          same = before_same since (before_length back);
          world = has.world;
        };
      }
  grows_by (newest ∷ newer) older may has =
      let before = grows_by newer older may.1 has in
      steps_on newest newer older has.events before
      (one (joint_after s image (newer ++ older)) newest fits (record { events = before.events'; may = before.may; world = before.world }) may.0)

pub moments_are_of_joints : (s : Settings) (t : Timing) → EachIsOneEvent s t → MomentsAreOfJoints s t
moments_are_of_joints s t one image newer older joined has = grows_by s t one joined.fits image newer older joined.may has

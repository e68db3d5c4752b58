-- The moments between the worlds of two joints, and an owner that is well. This project's profile.
use Rattle.std.specs.Prelude.{◌≡◌, ◌≤◌, ℕ, true, false, List, ◌++◌, length}
use Rattle.qn_model.specs.declared.configuration.Settings.{Settings}
use Rattle.qn_model.specs.declared.events.Event.{Event}
use Rattle.qn_model.specs.declared.life.Phase.TheVariants.{Up}
use Rattle.qn_model.specs.declared.times.Timing.{Timing}
use Rattle.qn_model.specs.Holding.{stop_due}
use Rattle.qn_model.specs.Log.{now}
use Rattle.qn_model.specs.Moments.{Before, Moment}
use Rattle.qn_model.specs.NodeVotes.{quorate_with_tie}
use Rattle.qn_model.specs.Phases.{phase}
use Rattle.qn_model.specs.Steps.{run}
use Rattle.qn_model.specs.Timing.{is_safe}
use Rattle.qn_model.specs.Unmet.{is_given_away}
use Rattle.qn_safety.specs.AnyNumbers.{AllMay}
use Rattle.qn_joined.specs.Joints.{Happening, IsJoined, joint_after, runs_at}
use Rattle.qn_joined.specs.WorldOf.{HasWorld, IsWorld}
use Rattle.qn_service.specs.Unheard.{log_after}

-- these moments are those of a world of a joint between two others
pub record IsOfJoint (s : Settings) (t : Timing) (image : ℕ → List ℕ) (older newer : List Happening) (moments : List Moment) : Type 0 where
  pub at : List Happening
  pub after : Before older at
  pub back : Before at newer
  pub events : List Event
  pub may : AllMay s t events
  pub same : (run s t events).moments ≡ moments
  pub world : IsWorld s t (joint_after s image at) (run s t events)

-- further events led to a world of the newer joint, and all moments between the two worlds are of joints between
pub record HasMoments (s : Settings) (t : Timing) (image : ℕ → List ℕ) (older newer : List Happening) (events : List Event) : Type 0 where
  pub events' : List Event
  pub may : AllMay s t events'
  pub world : IsWorld s t (joint_after s image newer) (run s t events')
  pub grew : Before (run s t events).moments (run s t events').moments
  pub each : (moments : List Moment)
      → Before (run s t events).moments moments
      → Before moments (run s t events').moments
      → IsOfJoint s t image older newer moments

abbrev pub MomentsAreOfJoints : Settings → Timing → Type 0
MomentsAreOfJoints s t =
    (image : ℕ → List ℕ) (newer older : List Happening)
    → IsJoined s t image (newer ++ older)
    → (has : HasWorld s t (joint_after s image older))
    → HasMoments s t image older (newer ++ older) has.events

-- The machine of a rank is on, its node is up, so is not asked to leave, it is quorate, and its view neither names another member nor
-- bars all. Of its disk, its pace and its packets nothing is said.
pub record MayOwn (s : Settings) (image : ℕ → List ℕ) (rank : ℕ) (happenings : List Happening) : Type 0 where
  pub on : ((joint_after s image happenings).hosts rank).on ≡ true
  pub up : phase s (log_after s image happenings rank) ≡ Up
  pub quorate : quorate_with_tie s (log_after s image happenings rank) (now (log_after s image happenings rank)) ≡ true
  pub kept : is_given_away s rank (log_after s image happenings rank) ≡ false

-- an owner of which no Stop is unanswered, and that is so at each joint from then on, goes on running its resource
abbrev pub OwnersGoOn : Settings → Timing → Type 0
OwnersGoOn s t =
    (image : ℕ → List ℕ) (newer older : List Happening) (rank : ℕ)
    → IsJoined s t image (newer ++ older)
    → runs_at s image older rank ≡ true
    → stop_due (log_after s image older rank) ≡ false
    → ((mid : List Happening) → Before older mid → Before mid (newer ++ older) → MayOwn s image rank mid)
    → runs_at s image (newer ++ older) rank ≡ true

-- the premises are met: in some joined run with safe times an owner is so, and its run goes on
pub record OwnerIsWell : Type 0 where
  pub settings : Settings
  pub timing : Timing
  pub image : ℕ → List ℕ
  pub newer : List Happening
  pub older : List Happening
  pub rank : ℕ
  pub safe : is_safe timing ≡ true
  pub some : 1 ≤ length newer
  pub joined : IsJoined settings timing image (newer ++ older)
  pub runs : runs_at settings image older rank ≡ true
  pub calm : stop_due (log_after settings image older rank) ≡ false
  pub well : (mid : List Happening) → Before older mid → Before mid (newer ++ older) → MayOwn settings image rank mid

-- A running node that is up and keeps its pace says a Hello to each other one at each half loop and two turns.
use Rattle.std.proofs.Common.{◌≡◌, ℕ, List, ◌++◌, length}
use Rattle.qn_model.specs.declared.configuration.Settings.{Settings}
use Rattle.qn_model.specs.declared.times.Timing.{Timing}
use Rattle.qn_model.specs.Moments.{Before, Itself, Later}
use Rattle.qn_safety.specs.Earlier.{before_joined}
use Rattle.qn_joined.specs.Joints.{AllMayHappen, Happening, IsJoined, joint_after}
use Rattle.qn_joined.specs.Moves.{EachIsOneEvent}
use Rattle.qn_joined.specs.WorldOf.{EveryJointHasAWorld, HasWorld}
use Rattle.qn_service.specs.Hellos.{HellosAreSaid, StaysAwake}
use Rattle.qn_service.proofs.ByTheImage.{HeadersReadBack, all_work}
use Rattle.qn_service.proofs.GoingOn.{may_before}
use Rattle.qn_service.proofs.JointClocks.{ClockLaws}
use Rattle.qn_service.proofs.KeptLoops.{loop_of}
use Rattle.qn_service.proofs.RankSteps.{host_after}
use Rattle.qn_service.proofs.SaidHellos.{hello_said, some_loop, works_makers}
use Rattle.qn_service.proofs.Tracing.{Traced, traced}
use Rattle.qn_service.proofs.TurnSteps.{MakerAt}

-- what may happen may happen up to an earlier joint
may_until : (s : Settings) (t : Timing) (image : ℕ → List ℕ) {at newer : List Happening} → Before at newer → AllMayHappen s t image newer → AllMayHappen s t image at
unfolding AllMayHappen
may_until s t image Itself may = may
may_until s t image (Later newest back) may = may_until s t image back may.1

module _ (s : Settings) (t : Timing) (worlds : EveryJointHasAWorld s t) (back : HeadersReadBack) (image : ℕ → List ℕ) (newer older : List Happening) (joined : IsJoined s t image (newer ++ older)) where
  -- the view makers of a rank that is up have the loop's time of the image
  pub makers_loop : (turn rank : ℕ) → StaysAwake s image turn rank older (newer ++ older) → (at : List Happening) → Before older at → Before at (newer ++ older)
      → MakerAt (λ m. loop_of m ≡ t.loop_ms) (host_after s image rank at).stand.spot
  makers_loop turn rank awake at since until =
      works_makers s t (host_after s image rank at).stand.spot
      (all_work s t (back (length s.nodes) t joined.fits.some joined.fits.few joined.fits.times) image
      (λ past may. worlds image past (record { fits = joined.fits; created = joined.created; may = may })) at (may_until s t image until joined.may) rank
      (awake at since until).is.on).at

  pub old_world : HasWorld s t (joint_after s image older)
  old_world = worlds image older (record { fits = joined.fits; created = joined.created; may = may_before s t image newer older joined.may })

pub hellos_are_said : (s : Settings) (t : Timing) → EveryJointHasAWorld s t → EachIsOneEvent s t → HeadersReadBack → ClockLaws → HellosAreSaid s t
hellos_are_said s t worlds one back laws image turn from to newer older joined configured under apart awake late =
    hello_said s t image turn from to older (newer ++ older) has.events it.events laws it.trace joined.may awake
    (makers_loop s t worlds back image newer older joined turn from awake) under apart (some_loop t joined.fits.times) (newer ++ older) (before_joined newer older) Itself late
  where
    has : HasWorld s t (joint_after s image older)
    has = old_world s t worlds back image newer older joined

    it : Traced s t image older has.events (newer ++ older)
    it = traced s t one joined.fits image newer older joined.may has

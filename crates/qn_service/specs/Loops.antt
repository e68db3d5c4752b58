-- The loop's time of the view makers of running nodes. This project's profile.
use Rattle.std.specs.Prelude.{◌≡◌, ℕ, List}
use Rattle.qn_model.specs.declared.configuration.Settings.{Settings}
use Rattle.qn_model.specs.declared.times.Timing.{Timing}
use Rattle.qn_joined.specs.AnyImage.{IsRejoined}
use Rattle.qn_joined.specs.Joints.{Happening, IsJoined}
use Rattle.qn_service.specs.Looks.{EachLook, LookOf}

-- a look is one with this loop's time
abbrev pub HasLoop : Timing → LookOf → Type 0
HasLoop t look = look.maker.maker.loop_ms ≡ t.loop_ms

-- each look of a joined run has the loop's time of the image
abbrev pub LooksByTheImage : Settings → Timing → Type 0
LooksByTheImage s t =
    (image : ℕ → List ℕ) (happenings : List Happening)
    → IsJoined s t image happenings
    → EachLook s image (HasLoop t) happenings

-- the same where the run began on an image that nodes and operators left
abbrev pub LooksByTheImageAgain : Settings → Timing → Type 0
LooksByTheImageAgain s t =
    (image : ℕ → List ℕ) (happenings : List Happening)
    → IsRejoined s t image happenings
    → EachLook s image (HasLoop t) happenings

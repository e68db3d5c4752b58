-- What is said of running nodes on three images that share one outside: this project's profile.
use Rattle.std.specs.Prelude.{◌≡◌, ℕ, Bool, true, false, not, ◌&&◌, ◌==◌, List, ◌++◌, IsTrue}
use Rattle.std.specs.List.{list_all}
use Rattle.qn_base.specs.Calls.{is_failed}
use Rattle.qn_model.specs.declared.configuration.Settings.{Settings}
use Rattle.qn_model.specs.declared.times.Timing.{Timing}
use Rattle.qn_model.specs.Sectors.{mail_place}
use Rattle.qn_model.specs.Timing.{is_safe}
use Rattle.qn_safety.specs.TripleRules.{is_image}
use Rattle.qn_joined.specs.Joints.{is_deadly_mail}
use Rattle.qn_joined.specs.Theorem.{HostOwns}
use Rattle.qn_joined.specs.TripleJoints.{IsTripleJoined, TripleHappening, Passes, Begins, Looks, Lands, Returns, Feeds, LandsLate, Ends, Operates, image_named, triple_joint_after, triple_runs_at}
use Rattle.qn_joined.specs.TripleNodes.{HasTripleWorld}

-- at most one resource runs at any moment
abbrev pub AtMostOneRunsOnThree : Settings → Timing → Type 0
AtMostOneRunsOnThree s t =
    (images : ℕ → ℕ → List ℕ) (happenings : List TripleHappening) (i j : ℕ)
    → IsTripleJoined s t images happenings
    → IsTrue (triple_runs_at s images happenings i)
    → IsTrue (triple_runs_at s images happenings j)
    → i ≡ j

-- every joint has a world
abbrev pub EveryTripleJointHasAWorld : Settings → Timing → Type 0
EveryTripleJointHasAWorld s t =
    (images : ℕ → ℕ → List ℕ) (happenings : List TripleHappening)
    → IsTripleJoined s t images happenings
    → HasTripleWorld s t (triple_joint_after s images happenings)

-- a resource that runs at a host that is on is held by the log of its node
abbrev pub AlwaysOwnsOnThree : Settings → Timing → Type 0
AlwaysOwnsOnThree s t =
    (images : ℕ → ℕ → List ℕ) (happenings : List TripleHappening) (rank : ℕ)
    → IsTripleJoined s t images happenings
    → HostOwns ((triple_joint_after s images happenings).hosts rank).one

-- a call on an image was done, or a write landed there that was given up, or of an operator
abbrev pub takes_effect_on : ℕ → TripleHappening → Bool
takes_effect_on image (Returns rank made) = image == image_named made && not (is_failed made)
takes_effect_on image (LandsLate rank other number) = image == other
takes_effect_on image (Operates rank other sent) = image == other
takes_effect_on image (Passes dt clocks) = false
takes_effect_on image (Begins rank clean leave polls turns) = false
takes_effect_on image (Looks rank base) = false
takes_effect_on image (Lands rank) = false
takes_effect_on image (Feeds rank) = false
takes_effect_on image (Ends rank) = false

-- The premises are met: a joined run in which an image is lost all the time, as on it each call fails and no sector changes; the
-- resources of two nodes run, one after the other, and a deadly message stands in the mailbox of the first on the other images.
pub record OneAfterAnotherOnThree : Type 0 where
  pub settings : Settings
  pub timing : Timing
  pub images : ℕ → ℕ → List ℕ
  pub lost : ℕ
  pub earlier : List TripleHappening
  pub later : List TripleHappening
  pub first : ℕ
  pub second : ℕ
  pub safe : is_safe timing ≡ true
  pub joined : IsTripleJoined settings timing images (later ++ earlier)
  pub one_of_three : is_image lost ≡ true
  pub fails : list_all (λ happening. not (takes_effect_on lost happening)) (later ++ earlier) ≡ true
  pub stays : (sector : ℕ) → (triple_joint_after settings images (later ++ earlier)).images lost sector ≡ images lost sector
  pub first_runs : triple_runs_at settings images earlier first ≡ true
  pub second_runs : triple_runs_at settings images (later ++ earlier) second ≡ true
  pub reset : (image : ℕ) → is_image image ≡ true → (lost == image) ≡ false
      → is_deadly_mail ((triple_joint_after settings images (later ++ earlier)).images image (mail_place first)) ≡ true
  pub differ : ¬ (first ≡ second)

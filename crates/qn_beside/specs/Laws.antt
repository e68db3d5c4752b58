-- What is said of running nodes beside a running arbiter: this project's profile.
use Rattle.std.specs.Prelude.{◌≡◌, ◌<◌, ℕ, Bool, true, ◌&&◌, List, Some, IsTrue, length}
use Rattle.qn_base.specs.declared.ids.View.{View}
use Rattle.qn_model.specs.declared.configuration.Settings.{Settings}
use Rattle.qn_model.specs.declared.times.Timing.{Timing}
use Rattle.qn_model.specs.Laws.{AreDisjoint}
use Rattle.qn_model.specs.Moments.{tick_of}
use Rattle.qn_model.specs.NodeVotes.{answer_with_tie, view}
use Rattle.qn_model.specs.Timing.{is_safe}
use Rattle.qn_joined.specs.Joints.{FitsImage, Host, IsNewImage, is_timed}
use Rattle.qn_joined.specs.Stands.{log_at}
use Rattle.qn_safety.specs.declared.lease.Lease.{Lease}
use Rattle.qn_safety.specs.ArbiterLaws.{LeasesVote}
use Rattle.qn_beside.specs.Beside.{AllMayHappenBeside, BesideHappening, beside_after}

-- running nodes beside a running arbiter, that began on a new image with no arbiter
pub record IsJoinedBeside (s : Settings) (t : Timing) (times : Lease) (image : ℕ → List ℕ) (happenings : List BesideHappening) : Type 0 where
  pub fits : FitsImage s t
  pub created : IsNewImage s t image
  pub may : AllMayHappenBeside s t times image happenings

-- the resource of a rank runs, or may
abbrev pub runs_beside : Settings → Lease → (ℕ → List ℕ) → List BesideHappening → ℕ → Bool
runs_beside s times image happenings rank =
    ((beside_after s times image happenings).joint.hosts rank).on && ((beside_after s times image happenings).joint.hosts rank).runs

-- The clause of `law_one_owner_beside`: at most one resource runs at any moment, whatever an arbiter does.
abbrev pub OneRunsBeside : Type 0
OneRunsBeside =
    (s : Settings) (t : Timing) (times : Lease) (image : ℕ → List ℕ) (happenings : List BesideHappening) (i j : ℕ)
    → IsTrue (is_safe t)
    → IsJoinedBeside s t times image happenings
    → IsTrue (runs_beside s times image happenings i)
    → IsTrue (runs_beside s times image happenings j)
    → i ≡ j

-- a host whose node takes part in time has this view at present, and counts itself quorate at the present tick of its clock
pub record IsQuorateHost (s : Settings) (seen : View) (host : Host) : Type 0 where
  pub timed : is_timed s host ≡ true
  pub sees : view (log_at host.stand.spot) ≡ Some seen
  pub quorate : IsTrue (answer_with_tie s (log_at host.stand.spot) (tick_of host.clock)).quorate

-- The clause of the law of one lease for running nodes: no two of them with disjoint present views are both quorate.
abbrev pub OneLeaseRuns : Type 0
OneLeaseRuns =
    (s : Settings) (t : Timing) (times : Lease) (image : ℕ → List ℕ) (happenings : List BesideHappening) (i j : ℕ) (left right : View)
    → LeasesVote s times
    → IsTrue (is_safe t)
    → IsJoinedBeside s t times image happenings
    → i < length s.nodes
    → j < length s.nodes
    → ¬ (i ≡ j)
    → AreDisjoint left right
    → IsQuorateHost s left ((beside_after s times image happenings).joint.hosts i)
    → ¬ IsQuorateHost s right ((beside_after s times image happenings).joint.hosts j)

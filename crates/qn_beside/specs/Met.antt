-- The premises of the law of one lease for running nodes are met: this project's profile.
use Rattle.std.specs.Prelude.{◌≡◌, ◌<◌, ℕ, true, List, ◌++◌, Some, length}
use Rattle.qn_base.specs.declared.ids.View.{View}
use Rattle.qn_model.specs.declared.configuration.Settings.{Settings}
use Rattle.qn_model.specs.declared.times.Timing.{Timing}
use Rattle.qn_model.specs.Laws.{AreDisjoint}
use Rattle.qn_model.specs.Moments.{tick_of}
use Rattle.qn_model.specs.NodeVotes.{answer_with_tie, view}
use Rattle.qn_model.specs.Timing.{is_safe}
use Rattle.qn_model.specs.Votes.{votes_among}
use Rattle.qn_joined.specs.Joints.{Host, is_timed}
use Rattle.qn_joined.specs.Stands.{log_at}
use Rattle.qn_safety.specs.declared.lease.Lease.{Lease}
use Rattle.qn_safety.specs.ArbiterLaws.{LeasesVote}
use Rattle.qn_beside.specs.Beside.{BesideHappening, beside_after}
use Rattle.qn_beside.specs.Laws.{IsJoinedBeside, IsQuorateHost}

-- the host of a rank after happenings, of which the newest stands first
abbrev pub host_after : Settings → Lease → (ℕ → List ℕ) → List BesideHappening → ℕ → Host
host_after s times image happenings rank = (beside_after s times image happenings).joint.hosts rank

-- A joined run of two nodes and an arbiter with a safe lease. First both are quorate in one view.
-- Then they are cut, and of two views with no member in common one is quorate: its members have too
-- few votes of their own, so it is so by the arbiter's yes. The node of the other one runs on.
pub record OneSideIsQuorate : Type 0 where
  pub settings : Settings
  pub timing : Timing
  pub times : Lease
  pub image : ℕ → List ℕ
  pub together : List BesideHappening
  pub after : List BesideHappening
  pub first : ℕ
  pub second : ℕ
  pub both : View
  pub left : View
  pub right : View
  pub leases : LeasesVote settings times
  pub safe : is_safe timing ≡ true
  pub joined : IsJoinedBeside settings timing times image (after ++ together)
  pub first_configured : first < length settings.nodes
  pub second_configured : second < length settings.nodes
  pub differ : ¬ (first ≡ second)
  pub apart : AreDisjoint left right
  pub first_together : IsQuorateHost settings both (host_after settings times image together first)
  pub second_together : IsQuorateHost settings both (host_after settings times image together second)
  pub first_quorate : IsQuorateHost settings left (host_after settings times image (after ++ together) first)
  pub few : votes_among settings.nodes left.members
      < (answer_with_tie settings (log_at (host_after settings times image (after ++ together) first).stand.spot)
      (tick_of (host_after settings times image (after ++ together) first).clock)).quorum
  pub second_runs : is_timed settings (host_after settings times image (after ++ together) second) ≡ true
  pub second_sees : view (log_at (host_after settings times image (after ++ together) second).stand.spot) ≡ Some right

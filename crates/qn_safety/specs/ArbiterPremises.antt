-- The premises of the laws beside an arbiter are met: a schedule of a valid cluster in which the vote goes from one half to the
-- other, both of which run, and one in which a node holds by the vote.
use Rattle.std.specs.Prelude.{◌≡◌, ◌<◌, ℕ, true, List, Some, IsTrue}
use Rattle.qn_base.specs.declared.ids.View.{View}
use Rattle.qn_base.specs.Members.{is_member}
use Rattle.qn_model.specs.declared.configuration.Settings.{Settings}
use Rattle.qn_model.specs.declared.times.Timing.{Timing}
use Rattle.qn_model.specs.Laws.{AreDisjoint}
use Rattle.qn_model.specs.Moments.{Before}
use Rattle.qn_model.specs.NodeVotes.{view}
use Rattle.qn_model.specs.Steps.{answer_now, holders}
use Rattle.qn_model.specs.Timing.{is_safe}
use Rattle.qn_model.specs.Votes.{votes_among}
use Rattle.qn_model.specs.World.{node_at}
use Rattle.qn_safety.specs.declared.arbiter_event.ArbiterEvent.{ArbiterEvent}
use Rattle.qn_safety.specs.declared.lease.Lease.{Lease}
use Rattle.qn_safety.specs.ArbiterSteps.{AllAllowedBeside, run_beside}
use Rattle.qn_safety.specs.ArbiterLaws.{IsQuorateIn, LeasesVote}

-- settings, safe timing, a safe lease and events that are each allowed, newest first: after some of them one node is quorate,
-- and after all of them another one, while the first one still runs with its view, which is disjoint from the other's
pub record VoteGoesOver : Type 0 where
  pub settings : Settings
  pub timing : Timing
  pub times : Lease
  pub earlier : List ArbiterEvent
  pub events : List ArbiterEvent
  pub first : ℕ
  pub second : ℕ
  pub left : View
  pub right : View
  pub leases : LeasesVote settings times
  pub safe : IsTrue (is_safe timing)
  pub allowed : AllAllowedBeside settings timing times events
  pub order : Before earlier events
  pub differ : ¬ (first ≡ second)
  pub apart : AreDisjoint left right
  pub first_quorate : IsQuorateIn settings first left (run_beside settings timing times earlier)
  pub second_quorate : IsQuorateIn settings second right (run_beside settings timing times events)
  pub first_runs : (node_at settings first (run_beside settings timing times events).world).on ≡ true
  pub first_sees : view (node_at settings first (run_beside settings timing times events).world).log ≡ Some left

-- settings, safe timing, a safe lease and events that are each allowed, newest first: after them a node holds the resource, whose
-- view alone has fewer votes than it needs
pub record HoldsByVote : Type 0 where
  pub settings : Settings
  pub timing : Timing
  pub times : Lease
  pub events : List ArbiterEvent
  pub holder : ℕ
  pub seen : View
  pub leases : LeasesVote settings times
  pub safe : IsTrue (is_safe timing)
  pub allowed : AllAllowedBeside settings timing times events
  pub quorate : IsQuorateIn settings holder seen (run_beside settings timing times events)
  pub few : votes_among settings.nodes seen.members
      < (answer_now settings (node_at settings holder (run_beside settings timing times events).world)).quorum
  pub holds : IsTrue (is_member (holders settings (run_beside settings timing times events).world) holder)

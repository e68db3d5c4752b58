-- The law of one leased vote: what it asks of settings and a lease, and what it says of a node. corosync-qdevice(8) and
-- votequorum(5), `device`; the lease is this project's profile.
use Rattle.std.specs.Prelude.{◌≡◌, ◌≤◌, ◌+◌, ℕ, true, false, List, Some, IsTrue}
use Rattle.qn_base.specs.declared.ids.View.{View}
use Rattle.qn_base.specs.Members.{is_member}
use Rattle.qn_model.specs.declared.configuration.Device.{Device}
use Rattle.qn_model.specs.declared.configuration.Settings.{Settings}
use Rattle.qn_model.specs.declared.times.Timing.{Timing}
use Rattle.qn_model.specs.Laws.{AreDisjoint}
use Rattle.qn_model.specs.NodeVotes.{view}
use Rattle.qn_model.specs.Settings.{IsValid, all_votes}
use Rattle.qn_model.specs.Steps.{answer_now, holders}
use Rattle.qn_model.specs.Timing.{is_safe}
use Rattle.qn_model.specs.World.{node_at}
use Rattle.qn_safety.specs.declared.arbiter_event.ArbiterEvent.{ArbiterEvent}
use Rattle.qn_safety.specs.declared.lease.Lease.{Lease}
use Rattle.qn_safety.specs.ArbiterSteps.{AllAllowedBeside, run_beside}
use Rattle.qn_safety.specs.ArbiterWorld.{ArbiterWorld}
use Rattle.qn_safety.specs.Lease.{is_safe_lease}

-- valid settings with a device and without last_man_standing, expected votes of at least those of all nodes and of the device,
-- and a safe lease
pub record LeasesVote (s : Settings) (times : Lease) : Type 0 where
  pub valid : IsValid s
  pub device : Device
  pub has_device : s.device ≡ Some device
  pub no_last_man : s.last_man_standing ≡ false
  pub whole : all_votes s.nodes + device.votes ≤ s.expected
  pub safe : IsTrue (is_safe_lease s times)

-- the node of a rank runs, this is its present view, and it counts itself quorate at its present tick
pub record IsQuorateIn (s : Settings) (rank : ℕ) (seen : View) (w : ArbiterWorld) : Type 0 where
  pub on : (node_at s rank w.world).on ≡ true
  pub sees : view (node_at s rank w.world).log ≡ Some seen
  pub quorate : IsTrue (answer_now s (node_at s rank w.world)).quorate

-- The clause of `law_one_lease`, as one word: after any allowed events no two running nodes with disjoint present views are both
-- quorate. A crate above cites it by a call, as the head of `specs/Reported` of qn_safety says.
abbrev pub OneLeasedVote : Type 0
OneLeasedVote =
    (s : Settings) (t : Timing) (times : Lease) (events : List ArbiterEvent) (i j : ℕ) (left right : View)
    → LeasesVote s times
    → AllAllowedBeside s t times events
    → ¬ (i ≡ j)
    → AreDisjoint left right
    → IsQuorateIn s i left (run_beside s t times events)
    → ¬ IsQuorateIn s j right (run_beside s t times events)

-- The clause of `law_one_holder_beside`, as one word: after any allowed events at most one node holds.
abbrev pub OneHolderBeside : Type 0
OneHolderBeside =
    (s : Settings) (t : Timing) (times : Lease) (events : List ArbiterEvent) (i j : ℕ)
    → IsTrue (is_safe t)
    → AllAllowedBeside s t times events
    → IsTrue (is_member (holders s (run_beside s t times events).world) i)
    → IsTrue (is_member (holders s (run_beside s t times events).world) j)
    → i ≡ j

-- A schedule in which a node holds the resource by the leased vote: alone in its view it has one vote of the two that
-- it needs.
use Rattle.std.proofs.Common.{◌≡◌, ◌++◌, true, List, refl, arith}
use Rattle.qn_base.specs.Members.{is_member}
use Rattle.qn_model.specs.Steps.{holders}
use Rattle.qn_model.specs.Timing.{usual_times}
use Rattle.qn_safety.specs.declared.arbiter_event.ArbiterEvent.{ArbiterEvent}
use Rattle.qn_safety.specs.ArbiterSteps.{run_beside}
use Rattle.qn_safety.specs.ArbiterLaws.{IsQuorateIn}
use Rattle.qn_safety.specs.ArbiterPremises.{HoldsByVote}
use Rattle.qn_safety.proofs.ArbiterPremises.{all_allowed, all_are_allowed, done, lease_steps, least_lease, left_has_it, left_node, sees, with_device, with_device_valid}

-- with the vote it reads its mailbox, and the slot of the other node, which is clean: it starts
abbrev starts : List ArbiterEvent
starts = done left_node ++ done left_node ++ left_has_it

left_is_quorate : IsQuorateIn with_device 0 (sees 1) (run_beside with_device usual_times least_lease starts)
unfolding lease_steps
left_is_quorate = record { on = refl; sees = refl; quorate = refl }

left_holds : is_member (holders with_device (run_beside with_device usual_times least_lease starts).world) 0 ≡ true
unfolding lease_steps
left_holds = refl

starts_passes : all_allowed with_device usual_times least_lease starts ≡ true
unfolding lease_steps all_allowed
starts_passes = refl

pub holds_by_vote : HoldsByVote
unfolding lease_steps
holds_by_vote = record {
  settings = with_device;
  timing = usual_times;
  times = least_lease;
  events = starts;
  holder = 0;
  seen = sees 1;
  leases = record {
    valid = with_device_valid;
    device = record { votes = 1; timeout = 10000 };
    has_device = refl;
    no_last_man = refl;
    whole = omega arith;
    safe = refl;
  };
  safe = refl;
  allowed = all_are_allowed with_device usual_times least_lease starts starts_passes;
  quorate = left_is_quorate;
  few = omega arith;
  holds = left_holds;
}

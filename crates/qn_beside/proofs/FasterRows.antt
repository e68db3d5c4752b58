-- A schedule that breaks the law of one lease where the arbiter's clock is 2 per cent fast.
use Rattle.std.proofs.Common.{◌≡◌, ◌*◌, ℕ, Bool, true, List, [], ◌∷◌, ◌++◌, refl, sym, arith}
use Rattle.qn_base.specs.declared.ids.Rank.{Rank}
use Rattle.qn_base.specs.declared.ids.View.{View}
use Rattle.qn_model.specs.declared.events.Event.TheVariants as event
use Rattle.qn_base.specs.lemmas.Numbers.{one_is_not_zero}
use Rattle.qn_model.specs.lemmas.WorldSteps.{world_steps}
use Rattle.qn_model.specs.Timing.{usual_times}
use Rattle.qn_safety.specs.declared.arbiter_event.ArbiterEvent.{ArbiterEvent}
use Rattle.qn_safety.specs.declared.arbiter_event.ArbiterEvent.TheVariants as beside
use Rattle.qn_safety.specs.declared.lease.Lease.{Lease}
use Rattle.qn_safety.specs.ArbiterLaws.{IsQuorateIn}
use Rattle.qn_safety.specs.ArbiterRules.{is_well_formed_beside, refusal_beside}
use Rattle.qn_safety.specs.ArbiterSteps.{arbiter_after, played, pollers_after, poll_sent, reply_sent, run_beside, step_beside}
use Rattle.qn_beside.specs.Faster.{BrokenByFasterClock, are_allowed_faster}
use Rattle.qn_beside.proofs.Device.{views_apart, with_device, with_device_valid}

abbrev least_lease : Lease
least_lease = record { limit = 2000; lease = 12244 }

abbrev slow_node : Rank
slow_node = record { 0 = 0 }

abbrev other_node : Rank
other_node = record { 0 = 1 }

abbrev sees : ℕ → View
sees members = record { id = 1; members = record { 0 = members } }

-- the operation that is out lands, and is answered; the newest event stands first
abbrev done : Rank → List ArbiterEvent
done rank = beside.One (event.Done rank) ∷ beside.One (event.Land rank) ∷ []

abbrev comes_up : Rank → List ArbiterEvent
comes_up rank = done rank ++ done rank ++ done rank ++ done rank ++ beside.One (event.Boot rank 0) ∷ []

-- a node boots, and is alone in its view
abbrev comes_up_alone : Rank → View → List ArbiterEvent
comes_up_alone rank seen = beside.One (event.View rank seen) ∷ comes_up rank

-- it polls, and the arbiter hears that poll
abbrev polls : Rank → ℕ → List ArbiterEvent
polls rank number = beside.Hear number ∷ beside.Poll rank ∷ []

-- what it read is answered, and it is fed
abbrev fed : List ArbiterEvent
fed = beside.One (event.Feed slow_node) ∷ done slow_node

-- so many milliseconds pass, in which the clock of the slow node is 1 per cent slow and the arbiter's 2 per cent fast
abbrev passes : ℕ → List ArbiterEvent
passes dt = beside.PassWith (102 * dt) (event.Pass dt ((slow_node, 99 * dt) ∷ [])) ∷ []

-- after that time the slow node reads its mailbox
abbrev reads_on : ℕ → List ArbiterEvent
reads_on dt = fed ++ beside.One (event.Tick slow_node) ∷ passes dt

-- A lease after the arbiter's boot the slow node polls, and takes the yes as late as it may, 2020 milliseconds later. When it still
-- counts that for two ticks of its clock, the arbiter's lease is over, and the other node, alone in its view, has the vote as well.
abbrev breaks : List ArbiterEvent
breaks =
    beside.Reply 1
    ∷ polls other_node 1
    ++ comes_up_alone other_node (sees 2)
    ++ passes 2099
    ++ reads_on 4000
    ++ reads_on 4000
    ++ fed
    ++ done slow_node
    ++ beside.Reply 0
    ∷ passes 2020
    ++ polls slow_node 0
    ++ fed
    ++ comes_up_alone slow_node (sees 1)
    ++ beside.One (event.Pass 12244 [])
    ∷ beside.ArbiterBoot 0
    ∷ []

-- what the schedule computes with
unfoldable lease_steps : Bool
unfolding world_steps arbiter_after played pollers_after poll_sent reply_sent step_beside run_beside is_well_formed_beside refusal_beside are_allowed_faster
lease_steps = true

breaks_is_allowed : are_allowed_faster (with_device 10000) usual_times least_lease breaks ≡ true
unfolding lease_steps
breaks_is_allowed = refl

slow_is_quorate : IsQuorateIn (with_device 10000) 0 (sees 1) (run_beside (with_device 10000) usual_times least_lease breaks)
unfolding lease_steps
slow_is_quorate = record { on = refl; sees = refl; quorate = refl }

other_is_quorate : IsQuorateIn (with_device 10000) 1 (sees 2) (run_beside (with_device 10000) usual_times least_lease breaks)
unfolding lease_steps
other_is_quorate = record { on = refl; sees = refl; quorate = refl }

pub broken_by_faster_clock : BrokenByFasterClock
broken_by_faster_clock = record {
  settings = with_device 10000;
  timing = usual_times;
  times = least_lease;
  events = breaks;
  first = 0;
  second = 1;
  left = sees 1;
  right = sees 2;
  leases = record {
    valid = with_device_valid 10000 (omega arith) (omega arith);
    device = record { votes = 1; timeout = 10000 };
    has_device = refl;
    no_last_man = refl;
    whole = omega arith;
    safe = refl;
  };
  safe = refl;
  allowed = breaks_is_allowed;
  differ = λ same. one_is_not_zero (sym same);
  apart = views_apart 1 1;
  first_quorate = slow_is_quorate;
  second_quorate = other_is_quorate;
}

-- Leases, answers and a schedule that were worked by hand, as theorems of the definitions.
use Rattle.std.proofs.Common.{◌≡◌, ℕ, Bool, true, false, List, [], ◌∷◌, ◌++◌, Some, None, refl, ◌&&◌}
use Rattle.std.specs.Prelude.{is_none}
use Rattle.qn_base.specs.declared.ids.Rank.{Rank}
use Rattle.qn_base.specs.declared.ids.View.{View}
use Rattle.qn_model.specs.declared.configuration.Settings.{Settings}
use Rattle.qn_model.specs.declared.events.Event.TheVariants as event
use Rattle.qn_model.specs.declared.life.Why.{Why}
use Rattle.qn_model.specs.declared.life.Why.TheVariants as why
use Rattle.qn_model.specs.declared.votes.Answer.{Answer}
use Rattle.qn_model.specs.declared.votes.VoteWhat.TheVariants as vote
use Rattle.qn_model.specs.lemmas.WorldSteps.{vote_steps, world_steps}
use Rattle.qn_model.specs.Tie.{answer_with_tie_at}
use Rattle.qn_model.specs.NodeVotes.{view, install, votes}
use Rattle.qn_model.specs.Moments.{time}
use Rattle.qn_model.specs.Steps.{report}
use Rattle.qn_model.specs.Timing.{usual_times}
use Rattle.qn_safety.specs.declared.arbiter_event.ArbiterEvent.{ArbiterEvent}
use Rattle.qn_safety.specs.declared.arbiter_event.ArbiterEvent.TheVariants as beside
use Rattle.qn_safety.specs.declared.lease.Lease.{Lease}
use Rattle.qn_safety.specs.declared.polls.Poll.{Poll}
use Rattle.qn_safety.specs.declared.polls.Reply.{Reply}
use Rattle.qn_safety.specs.declared.arbiter_reports.ArbiterReport.{ArbiterReport}
use Rattle.qn_safety.specs.declared.arbiter_reports.Said.{Said}
use Rattle.qn_safety.specs.declared.arbiter_reports.Said.TheVariants.{Nothing, Polled, Answered}
use Rattle.qn_safety.specs.Lease.{is_safe_lease}
use Rattle.qn_safety.specs.Arbiter.{Memory, fresh_memory, gives_yes, with_poll}
use Rattle.qn_safety.specs.Poller.{Poller, answer_taken, fresh_poller, with_sent, without_last}
use Rattle.qn_safety.specs.ArbiterWorld.{ArbiterWorld, first_arbiter_world}
use Rattle.qn_safety.specs.ArbiterRules.{is_well_formed_beside, refusal_beside}
use Rattle.qn_safety.specs.ArbiterSteps.{arbiter_after, played, pollers_after, poll_sent, reply_sent, report_beside, run_beside_from, said_at, step_beside}

-- two nodes of one vote each, with ids 1 and 2, and a device of one vote whose yes counts for 10000 milliseconds
abbrev with_device : Settings
with_device =
    record {
      nodes = record { id = record { 0 = 1 }; votes = 1; fence_delay = 0 } ∷ record { id = record { 0 = 2 }; votes = 1; fence_delay = 0 } ∷ [];
      two_node = false;
      wait_for_all = false;
      last_man_standing = false;
      window = 10000;
      device = Some (record { votes = 1; timeout = 10000 });
      expected = 3;
      tie = None;
    }

abbrev without_device : Settings
without_device = record with_device { device = None; expected = 2 }

-- a reply limit of 2000 milliseconds, and a lease
abbrev lasting : ℕ → Lease
lasting lease = record { limit = 2000; lease = lease }

least_lease : is_safe_lease with_device (lasting 12244) ≡ true
least_lease = refl

lease_one_tick_short : is_safe_lease with_device (lasting 12243) ≡ false
lease_one_tick_short = refl

no_device_to_lease : is_safe_lease without_device (lasting 12244) ≡ false
no_device_to_lease = refl

longest_lease : is_safe_lease with_device (lasting 36000000) ≡ true
longest_lease = refl

lease_too_long : is_safe_lease with_device (lasting 36000001) ≡ false
lease_too_long = refl

-- what the rows compute with
arbiter_steps : Bool
unfolding world_steps report arbiter_after played pollers_after poll_sent reply_sent report_beside run_beside_from said_at step_beside is_well_formed_beside refusal_beside
arbiter_steps = true

abbrev seen : ℕ → ℕ → View
seen id members = record { id = id; members = record { 0 = members } }

abbrev rank_of : ℕ → Rank
rank_of number = record { 0 = number }

-- a first poll of a rank, in its first incarnation and its first view
abbrev first_poll : ℕ → ℕ → Poll
first_poll rank members = record { from = rank_of rank; number = 0; incarnation = 1; install = 1; view = seen 1 members }

abbrev began_at_0 : Memory
began_at_0 = fresh_memory 12244 0

says_no_before_a_lease : gives_yes began_at_0 12243 (first_poll 0 3) ≡ false
says_no_before_a_lease = refl

says_yes_after_a_lease : gives_yes began_at_0 12244 (first_poll 0 3) ≡ true
says_yes_after_a_lease = refl

-- the ranks 0 and 1 have the vote; the ranks 2 and 3 get it a lease later
abbrev bound : Memory
bound = with_poll 12244 (first_poll 0 3) (with_poll 12243 (first_poll 0 3) began_at_0)

yes_still_binds : gives_yes bound 24487 (first_poll 2 12) ≡ false
yes_still_binds = refl

yes_binds_no_longer : gives_yes (with_poll 24487 (first_poll 2 12) bound) 24488 (first_poll 2 12) ≡ true
yes_binds_no_longer = refl

-- the first node alone has the vote from 12244 on, for 10000 milliseconds; the second one, alone as well, gets it a lease later
abbrev bound_alone : Memory
bound_alone = with_poll 12244 (first_poll 0 1) (with_poll 12243 (first_poll 0 1) began_at_0)

other_half_waits : gives_yes bound_alone 24487 (first_poll 1 2) ≡ false
other_half_waits = refl

other_half_has_it : gives_yes (with_poll 24487 (first_poll 1 2) bound_alone) 24488 (first_poll 1 2) ≡ true
other_half_has_it = refl

-- what the first node counts at a tick
abbrev counts_at : ℕ → Answer
counts_at tick =
    answer_with_tie_at with_device (record { tick = 12244; what = vote.Device true } ∷ record { tick = 12244; what = vote.View (seen 1 1) } ∷ []) tick

first_counts_it : counts_at 22243 ≡ record { quorate = true; votes = 2; quorum = 2; expected = 3; released = true }
unfolding vote_steps
first_counts_it = refl

its_yes_ends : counts_at 22244 ≡ record { quorate = false; votes = 1; quorum = 2; expected = 3; released = true }
unfolding vote_steps
its_yes_ends = refl

-- a poll of an earlier incarnation, or of an earlier view, gets no yes once a later one was heard, be that one refused
abbrev heard_later : Memory
heard_later = with_poll 0 (record (first_poll 1 2) { incarnation = 2 }) (fresh_memory 1 0)

earlier_incarnation_is_refused : gives_yes heard_later 5 (record (first_poll 1 2) { install = 9 }) ≡ false
earlier_incarnation_is_refused = refl

equal_pair_is_not_refused : gives_yes heard_later 5 (record (first_poll 1 2) { incarnation = 2 }) ≡ true
equal_pair_is_not_refused = refl

-- a poller that polled at 100
abbrev polled_at_100 : Poller
polled_at_100 = with_sent (rank_of 0) (record { tick = 100; incarnation = 1; install = 1; view = seen 1 1 }) (fresh_poller 2000)

abbrev fitting : Reply
fitting = record { to = rank_of 0; number = 0; incarnation = 1; install = 1; agrees = true }

reply_at_the_limit : answer_taken 2100 fitting polled_at_100 ≡ Some true
reply_at_the_limit = refl

reply_past_the_limit : answer_taken 2101 fitting polled_at_100 ≡ None
reply_past_the_limit = refl

reply_of_an_earlier_boot : answer_taken 2100 (record fitting { incarnation = 0 }) polled_at_100 ≡ None
reply_of_an_earlier_boot = refl

reply_behind_a_view : answer_taken 2100 fitting (without_last polled_at_100) ≡ None
reply_behind_a_view = refl

-- the operation that is out lands, and is answered
abbrev done_at_once : Rank → List ArbiterEvent
done_at_once rank = beside.One (event.Land rank) ∷ beside.One (event.Done rank) ∷ []

abbrev boot_of : Rank → List ArbiterEvent
boot_of rank =
    beside.One (event.Boot rank 0) ∷ [] ++ done_at_once rank ++ done_at_once rank ++ done_at_once rank ++ done_at_once rank

-- the events are well formed, and allowed in their turns
abbrev all_allowed : ArbiterWorld → List ArbiterEvent → Bool
all_allowed w [] = true
all_allowed w (event ∷ later) =
    is_well_formed_beside with_device event && is_none (refusal_beside with_device usual_times event w)
    && all_allowed (step_beside with_device usual_times (lasting 12244) event w) later

abbrev world_behind : List ArbiterEvent → ArbiterWorld
world_behind events = run_beside_from with_device usual_times (lasting 12244) (first_arbiter_world (lasting 12244)) events

-- what a last event reports, after others
abbrev reported : List ArbiterEvent → ArbiterEvent → ArbiterReport
reported events last = report_beside with_device last (world_behind events) (world_behind (events ++ last ∷ []))

-- nobody holds, at 12244; a node counts so many votes of two that are needed
abbrev counted : Bool → ℕ → Answer
counted quorate votes = record { quorate = quorate; votes = votes; quorum = 2; expected = 3; released = true }

abbrev node_says : Rank → Answer → Why → Said → ArbiterReport
node_says rank answer condition said =
    record {
      report = record { time = 12244; touched = Some rank; outs = []; holders = record { 0 = 0 }; answer = answer; why = condition };
      said = said;
    }

abbrev arbiter_says : ℕ → Said → ArbiterReport
arbiter_says time said =
    record {
      report = record { time = time; touched = None; outs = []; holders = record { 0 = 0 }; answer = counted false 0; why = why.Down };
      said = said;
    }

-- a lease after the arbiter's boot the first node, alone in its view, polls and has its vote; the second one, alone in its
-- view as well, does not get it
abbrev alone_after_a_lease : List ArbiterEvent
alone_after_a_lease =
    beside.ArbiterBoot 0 ∷ beside.One (event.Pass 12244 []) ∷ boot_of (rank_of 0) ++ beside.One (event.View (rank_of 0) (seen 1 1)) ∷ []

abbrev first_has_its_vote : List ArbiterEvent
first_has_its_vote = alone_after_a_lease ++ beside.Poll (rank_of 0) ∷ beside.Hear 0 ∷ beside.Reply 0 ∷ []

abbrev second_polls : List ArbiterEvent
second_polls =
    first_has_its_vote ++ boot_of (rank_of 1) ++ beside.One (event.View (rank_of 1) (seen 2 2)) ∷ beside.Poll (rank_of 1) ∷ []

schedule_is_allowed : all_allowed (first_arbiter_world (lasting 12244)) (second_polls ++ beside.Hear 1 ∷ []) ≡ true
unfolding arbiter_steps
schedule_is_allowed = refl

arbiter_boots : reported [] (beside.ArbiterBoot 0) ≡ arbiter_says 0 Nothing
unfolding arbiter_steps
arbiter_boots = refl

first_polls : reported alone_after_a_lease (beside.Poll (rank_of 0)) ≡ node_says (rank_of 0) (counted false 1) (why.NotQuorate 1 2) (Polled 0)
unfolding arbiter_steps
first_polls = refl

first_is_heard : reported (alone_after_a_lease ++ beside.Poll (rank_of 0) ∷ []) (beside.Hear 0) ≡ arbiter_says 12244 (Answered 0 true)
unfolding arbiter_steps
first_is_heard = refl

first_is_quorate : reported (alone_after_a_lease ++ beside.Poll (rank_of 0) ∷ beside.Hear 0 ∷ []) (beside.Reply 0)
    ≡ node_says (rank_of 0) (counted true 2) (why.Unfenced (record { 0 = 2 }) false 0) Nothing
unfolding arbiter_steps
first_is_quorate = refl

second_is_refused : reported second_polls (beside.Hear 1) ≡ arbiter_says 12244 (Answered 1 false)
unfolding arbiter_steps
second_is_refused = refl

-- A schedule in which the vote goes from one half to the other, both of which run: the premises of the law are met.
use Rattle.std.proofs.Common.{◌≡◌, ◌≤◌, ◌==◌, ◌&&◌, ◌⊎◌, inl, inr, ℕ, Bool, true, false, List, [], ◌∷◌, ◌++◌, Some, None, refl, sym, ap, ◌∙◌, subst, arith}
use Rattle.std.specs.Prelude.{is_none}
use Rattle.std.proofs.lemmas.Bool.{cases_eq, false≢true}
use Rattle.std.proofs.lemmas.Nat.Bits.{bit_at-pow_other}
use Rattle.qn_base.specs.Members.{is_member}
use Rattle.qn_model.specs.Laws.{AreDisjoint}
use Rattle.qn_model.specs.Settings.{IsValid}
use Rattle.qn_model.specs.World.{node_at}
use Rattle.qn_safety.specs.Earlier.{before_joined}
use Rattle.qn_safety.specs.ArbiterLaws.{IsQuorateIn}
use Rattle.qn_safety.specs.ArbiterPremises.{VoteGoesOver}
use Rattle.qn_safety.specs.ArbiterSteps.{AllAllowedBeside, run_beside}
use Rattle.qn_base.specs.declared.ids.Rank.{Rank}
use Rattle.qn_base.specs.declared.ids.View.{View}
use Rattle.qn_model.specs.declared.configuration.Settings.{Settings}
use Rattle.qn_model.specs.declared.events.Event.TheVariants as event
use Rattle.qn_model.specs.declared.times.Timing.{Timing}
use Rattle.qn_model.specs.lemmas.Rules.{allowed_in_turn}
use Rattle.qn_model.specs.lemmas.TwoNodes.{first_node, second_node, each_of_two, two_ids_ascend}
use Rattle.qn_model.specs.lemmas.WorldSteps.{world_steps}
use Rattle.qn_model.specs.NodeVotes.{view}
use Rattle.qn_model.specs.Timing.{usual_times}
use Rattle.qn_safety.specs.declared.arbiter_event.ArbiterEvent.{ArbiterEvent}
use Rattle.qn_safety.specs.declared.arbiter_event.ArbiterEvent.TheVariants as beside
use Rattle.qn_safety.specs.declared.lease.Lease.{Lease}
use Rattle.qn_safety.specs.ArbiterRules.{is_well_formed_beside, refusal_beside}
use Rattle.qn_safety.specs.ArbiterSteps.{arbiter_after, played, pollers_after, poll_sent, reply_sent, step_beside}

-- two nodes of one vote each, and a device of one vote whose yes counts for 10000 milliseconds
abbrev pub with_device : Settings
with_device =
    record {
      nodes = first_node ∷ second_node ∷ [];
      two_node = false;
      wait_for_all = false;
      last_man_standing = false;
      window = 10000;
      device = Some (record { votes = 1; timeout = 10000 });
      expected = 3;
      tie = None;
    }

abbrev pub least_lease : Lease
least_lease = record { limit = 2000; lease = 12244 }

abbrev pub left_node : Rank
left_node = record { 0 = 0 }

abbrev right_node : Rank
right_node = record { 0 = 1 }

abbrev pub sees : ℕ → View
sees members = record { id = 1; members = record { 0 = members } }

-- the operation that is out lands, and is answered; the newest event stands first
abbrev pub done : Rank → List ArbiterEvent
done rank = beside.One (event.Done rank) ∷ beside.One (event.Land rank) ∷ []

abbrev comes_up : Rank → List ArbiterEvent
comes_up rank = done rank ++ done rank ++ done rank ++ done rank ++ beside.One (event.Boot rank 0) ∷ []

-- a node boots, is alone in its view, polls, and has the vote by the reply of that number
abbrev comes_to_vote : Rank → View → ℕ → List ArbiterEvent
comes_to_vote rank seen number =
    beside.Reply number ∷ beside.Hear number ∷ beside.Poll rank ∷ beside.One (event.View rank seen) ∷ comes_up rank

-- so many milliseconds pass, and a node reads its mailbox and is fed
abbrev reads_on : Rank → ℕ → List ArbiterEvent
reads_on rank dt =
    beside.One (event.Feed rank) ∷ done rank ++ beside.One (event.Tick rank) ∷ beside.One (event.Pass dt []) ∷ []

-- a lease after the arbiter's boot the first node, alone in its view, polls and has the vote
abbrev pub left_has_it : List ArbiterEvent
left_has_it = comes_to_vote left_node (sees 1) 0 ++ beside.One (event.Pass 12244 []) ∷ beside.ArbiterBoot 0 ∷ []

-- it lives on, and its yes ends; more than a lease behind that yes the second node, alone in its
-- view, boots, polls and has the vote
abbrev goes_over_after : List ArbiterEvent
goes_over_after =
    comes_to_vote right_node (sees 2) 1 ++ reads_on left_node 4000 ++ reads_on left_node 4000 ++ reads_on left_node 4000
    ++ beside.One (event.Feed left_node) ∷ done left_node ++ done left_node ++ beside.One (event.Pass 4000 [])
    ∷ beside.One (event.Feed left_node) ∷ done left_node

abbrev goes_over : List ArbiterEvent
goes_over = goes_over_after ++ left_has_it

-- what the schedule computes with
unfoldable pub lease_steps : Bool
unfolding world_steps arbiter_after played pollers_after poll_sent reply_sent step_beside run_beside is_well_formed_beside refusal_beside
lease_steps = true

left_is_quorate : IsQuorateIn with_device 0 (sees 1) (run_beside with_device usual_times least_lease left_has_it)
unfolding lease_steps
left_is_quorate = record { on = refl; sees = refl; quorate = refl }

right_is_quorate : IsQuorateIn with_device 1 (sees 2) (run_beside with_device usual_times least_lease goes_over)
unfolding lease_steps
right_is_quorate = record { on = refl; sees = refl; quorate = refl }

left_runs : (node_at with_device 0 (run_beside with_device usual_times least_lease goes_over).world).on ≡ true
unfolding lease_steps
left_runs = refl

left_sees : view (node_at with_device 0 (run_beside with_device usual_times least_lease goes_over).world).log
    ≡ Some (sees 1)
unfolding lease_steps
left_sees = refl

-- the test of allowed events
unfoldable pub all_allowed : Settings → Timing → Lease → List ArbiterEvent → Bool
all_allowed s t times [] = true
all_allowed s t times (event ∷ earlier) =
    is_well_formed_beside s event && is_none (refusal_beside s t event (run_beside s t times earlier))
    && all_allowed s t times earlier

pub all_are_allowed : (s : Settings) (t : Timing) (times : Lease) (events : List ArbiterEvent)
    → all_allowed s t times events ≡ true
    → AllAllowedBeside s t times events
unfolding all_allowed AllAllowedBeside
all_are_allowed s t times [] passed = tt
all_are_allowed s t times (event ∷ earlier) passed =
    let refused = refusal_beside s t event (run_beside s t times earlier) in
    let parts = allowed_in_turn (is_well_formed_beside s event) refused (all_allowed s t times earlier) passed in
    (parts.0, parts.1, all_are_allowed s t times earlier parts.2)

goes_over_passes : all_allowed with_device usual_times least_lease goes_over ≡ true
unfolding lease_steps all_allowed
goes_over_passes = refl

not_same : ¬ (◌≡◌ {A = ℕ} 0 1)
not_same e = absurd (omega arith)

-- the views have no node in common
views_apart : AreDisjoint (sees 1) (sees 2)
views_apart rank in_left in_right = by_rank (cases_eq rank 0)
  where
    by_rank : (rank ≡ 0) ⊎ ((rank ≡ 0) → ⊥) → ⊥
    by_rank (inl same) = false≢true (subst (λ r. is_member (record { 0 = 2 }) r ≡ true) same in_right)
    by_rank (inr other) = false≢true (sym (ap (λ n. n == 1) (bit_at-pow_other 0 rank other)) ∙ in_left)

pub with_device_valid : IsValid with_device
with_device_valid = record {
  some_node = omega arith;
  few_nodes = omega arith;
  ids_from_one = each_of_two (λ n. 1 ≤ n.id.0) (omega arith) (omega arith);
  ids_fit = each_of_two (λ n. n.id.0 ≤ 4294967295) (omega arith) (omega arith);
  ids_ascend = two_ids_ascend;
  votes_fit = each_of_two (λ n. n.votes ≤ 65535) (omega arith) (omega arith);
  some_vote = omega arith;
  some_expected = omega arith;
  window = (omega arith, omega arith);
  timeout = (omega arith, omega arith);
  two_nodes = λ e. refl;
  two_votes = λ e. each_of_two (λ n. n.votes ≡ 1) refl refl;
  two_alone = λ e. absurd (false≢true e);
  last_man_votes = λ e. absurd (false≢true e);
  delays_fit = each_of_two (λ n. n.fence_delay ≤ 3600000) (omega arith) (omega arith);
  tie_order = tt;
  tie_alone = λ e. absurd (false≢true e);
}

pub vote_goes_over : VoteGoesOver
vote_goes_over = record {
  settings = with_device;
  timing = usual_times;
  times = least_lease;
  earlier = left_has_it;
  events = goes_over;
  first = 0;
  second = 1;
  left = sees 1;
  right = sees 2;
  leases = record {
    valid = with_device_valid;
    device = record { votes = 1; timeout = 10000 };
    has_device = refl;
    no_last_man = refl;
    whole = omega arith;
    safe = refl;
  };
  safe = refl;
  allowed = all_are_allowed with_device usual_times least_lease goes_over goes_over_passes;
  order = before_joined goes_over_after left_has_it;
  differ = not_same;
  apart = views_apart;
  first_quorate = left_is_quorate;
  second_quorate = right_is_quorate;
  first_runs = left_runs;
  first_sees = left_sees;
}

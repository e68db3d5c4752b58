-- Four nodes with ids 1 to 4, which are cut into two halves: the one with node 1 goes on.
use Rattle.std.proofs.Common.{◌≡◌, ◌≢◌, ◌≤◌, ◌<◌, ◌+◌, ◌==◌, ◌⊎◌, inl, inr, ℕ, zero, suc, true, false, List, [], ◌∷◌, All, AllPairs, Some, None, slice_index, refl, sym, ap, ◌∙◌, arith}
use Rattle.std.proofs.lemmas.Bool.{cases_lt, false≢true}
use Rattle.std.proofs.lemmas.List.Elements.{All-nil, All-cons}
use Rattle.std.proofs.lemmas.List.Kept.{AllPairs-cons}
use Rattle.std.proofs.lemmas.Nat.Bits.{bit_at_above, bit_at_mask_below}
use Rattle.qn_base.specs.declared.ids.Rank.{Rank}
use Rattle.qn_base.specs.declared.ids.View.{View}
use Rattle.qn_model.specs.declared.configuration.Settings.{Settings}
use Rattle.qn_model.specs.declared.entries.Entry.{Entry}
use Rattle.qn_model.specs.declared.entries.What.{What}
use Rattle.qn_model.specs.declared.entries.What.TheVariants as what
use Rattle.qn_model.specs.declared.nodelist.NodeEntry.{NodeEntry}
use Rattle.qn_model.specs.declared.seen.HeaderSeen.TheVariants as header
use Rattle.qn_model.specs.declared.seen.SlotSeen.TheVariants as slot
use Rattle.qn_model.specs.Hearing.{told}
use Rattle.qn_model.specs.Holding.{holds, stop_due, may_stop}
use Rattle.qn_model.specs.Laws.{AreDisjoint}
use Rattle.qn_model.specs.Licences.{out_time, slot_read_since, reset_since}
use Rattle.qn_model.specs.Log.{op_out, ask_place, ask_tick, begins_clean, claimed, slot_number, timing}
use Rattle.qn_model.specs.NodeOutputs.{moment, acts, log_from, log_of, outs_at, with_entry}
use Rattle.qn_model.specs.NodeVotes.{view, install, quorate, quorate_with_tie, votes}
use Rattle.qn_model.specs.Phases.{phase}
use Rattle.qn_model.specs.Settings.{IsOrder, IsValid, ids}
use Rattle.qn_model.specs.Tie.{majority_view}
use Rattle.qn_model.specs.Timing.{usual_times}
use Rattle.qn_model.specs.Unmet.{least_from, unmet}
use Rattle.qn_model.specs.Votes.{answer_at, present_view, view_tick, is_released, expected_votes, device_yes}
use Rattle.qn_model.specs.Wanted.{mail_tick, wanted_with_delay}
use Rattle.qn_tie.specs.Halves.{SplitAlike}
use Rattle.qn_tie.specs.Premises.{OneHalfGoesOn}

abbrev node_of : ℕ → NodeEntry
node_of id = record { id = record { 0 = id }; votes = 1; fence_delay = 0 }

abbrev rank_of : ℕ → Rank
rank_of rank = record { 0 = rank }

-- four nodes of one vote each, of which that with the lowest id is preferred
abbrev four_nodes : Settings
four_nodes =
    record {
      nodes = node_of 1 ∷ node_of 2 ∷ node_of 3 ∷ node_of 4 ∷ [];
      two_node = false;
      wait_for_all = false;
      last_man_standing = false;
      window = 10000;
      device = None;
      expected = 4;
      tie = Some (rank_of 0 ∷ rank_of 1 ∷ rank_of 2 ∷ rank_of 3 ∷ []);
    }

abbrev sees : ℕ → ℕ → View
sees id members = record { id = id; members = record { 0 = members } }

abbrev at_once : What → Entry
at_once entry = record { tick = 0; what = entry }

-- a node boots, sees all four nodes, and then those of its half alone
abbrev history_of : Rank → View → List Entry
history_of me half =
    at_once what.Begin
    ∷ at_once (what.Header (header.Read 4 usual_times))
    ∷ at_once (what.SlotRead me (slot.Read (record { incarnation = 0; clean = true })))
    ∷ at_once (what.Claimed true)
    ∷ at_once (what.Cleared true)
    ∷ at_once (what.View (sees 1 15))
    ∷ at_once (what.View half)
    ∷ []

abbrev first_history : List Entry
first_history = history_of (rank_of 0) (sees 2 3)

abbrev second_history : List Entry
second_history = history_of (rank_of 2) (sees 3 12)

each_node : (P : NodeEntry → Type 0) → P (node_of 1) → P (node_of 2) → P (node_of 3) → P (node_of 4) → All P four_nodes.nodes
each_node P one two three four =
    All-cons P (node_of 1) (node_of 2 ∷ node_of 3 ∷ node_of 4 ∷ []) one
    (All-cons P (node_of 2) (node_of 3 ∷ node_of 4 ∷ []) two
    (All-cons P (node_of 3) (node_of 4 ∷ []) three
    (All-cons P (node_of 4) [] four (All-nil P))))

each_rank : (P : Rank → Type 0) → P (rank_of 0) → P (rank_of 1) → P (rank_of 2) → P (rank_of 3) → All P (rank_of 0 ∷ rank_of 1 ∷ rank_of 2 ∷ rank_of 3 ∷ [])
each_rank P one two three four =
    All-cons P (rank_of 0) (rank_of 1 ∷ rank_of 2 ∷ rank_of 3 ∷ []) one
    (All-cons P (rank_of 1) (rank_of 2 ∷ rank_of 3 ∷ []) two
    (All-cons P (rank_of 2) (rank_of 3 ∷ []) three
    (All-cons P (rank_of 3) [] four (All-nil P))))

-- no rank is preferred twice
abbrev Differ : Rank → Rank → Type 0
Differ first second = first.0 ≢ second.0

none_twice : AllPairs Differ (rank_of 0 ∷ rank_of 1 ∷ rank_of 2 ∷ rank_of 3 ∷ [])
none_twice =
    AllPairs-cons Differ (rank_of 0) (rank_of 1 ∷ rank_of 2 ∷ rank_of 3 ∷ [])
    (All-cons (Differ (rank_of 0)) (rank_of 1) (rank_of 2 ∷ rank_of 3 ∷ []) (λ e. absurd (omega arith))
    (All-cons (Differ (rank_of 0)) (rank_of 2) (rank_of 3 ∷ []) (λ e. absurd (omega arith))
    (All-cons (Differ (rank_of 0)) (rank_of 3) [] (λ e. absurd (omega arith)) (All-nil (Differ (rank_of 0))))))
    (AllPairs-cons Differ (rank_of 1) (rank_of 2 ∷ rank_of 3 ∷ [])
    (All-cons (Differ (rank_of 1)) (rank_of 2) (rank_of 3 ∷ []) (λ e. absurd (omega arith))
    (All-cons (Differ (rank_of 1)) (rank_of 3) [] (λ e. absurd (omega arith)) (All-nil (Differ (rank_of 1)))))
    (AllPairs-cons Differ (rank_of 2) (rank_of 3 ∷ [])
    (All-cons (Differ (rank_of 2)) (rank_of 3) [] (λ e. absurd (omega arith)) (All-nil (Differ (rank_of 2))))
    (AllPairs-cons Differ (rank_of 3) [] (All-nil (Differ (rank_of 3))) (λ i j d lt within. absurd (omega arith)))))

four_nodes_valid : IsValid four_nodes
four_nodes_valid = record {
  some_node = omega arith;
  few_nodes = omega arith;
  ids_from_one = each_node (λ n. 1 ≤ n.id.0) (omega arith) (omega arith) (omega arith) (omega arith);
  ids_fit = each_node (λ n. n.id.0 ≤ 4294967295) (omega arith) (omega arith) (omega arith) (omega arith);
  ids_ascend = ids_ascend;
  votes_fit = each_node (λ n. n.votes ≤ 65535) (omega arith) (omega arith) (omega arith) (omega arith);
  some_vote = omega arith;
  some_expected = omega arith;
  window = (omega arith, omega arith);
  timeout = tt;
  two_nodes = λ e. absurd (false≢true e);
  two_votes = λ e. absurd (false≢true e);
  two_alone = λ e. absurd (false≢true e);
  last_man_votes = λ e. absurd (false≢true e);
  delays_fit = each_node (λ n. n.fence_delay ≤ 3600000) (omega arith) (omega arith) (omega arith) (omega arith);
  tie_order = lowest_first;
  tie_alone = λ e. (refl, refl);
}
  where
    ids_ascend : (k : ℕ) → k + 1 < 4 → slice_index (ids four_nodes.nodes) k < slice_index (ids four_nodes.nodes) (k + 1)
    ids_ascend zero below = omega arith
    ids_ascend (suc zero) below = omega arith
    ids_ascend (suc (suc zero)) below = omega arith
    ids_ascend (suc (suc (suc k))) below = absurd (omega arith)

    lowest_first : IsOrder four_nodes.nodes (rank_of 0 ∷ rank_of 1 ∷ rank_of 2 ∷ rank_of 3 ∷ [])
    lowest_first = record {
      some_rank = omega arith;
      configured = each_rank (λ rank. rank.0 < 4) (omega arith) (omega arith) (omega arith) (omega arith);
      none_twice = none_twice;
    }

-- the halves have no node in common
halves_apart : AreDisjoint (sees 2 3) (sees 3 12)
halves_apart rank in_left in_right = by_rank (cases_lt rank 2)
  where
    by_rank : (rank < 2) ⊎ (2 ≤ rank) → ⊥
    by_rank (inr above) = false≢true (sym (ap (λ n. n == 1) (bit_at_above 3 2 rank (omega arith) above)) ∙ in_left)
    by_rank (inl below) = false≢true (sym (ap (λ n. n == 1) (bit_at_mask_below 2 4 rank below)) ∙ in_right)

first_sees : view (log_of four_nodes 0 first_history) ≡ Some (sees 2 3)
unfolding op_out ask_place ask_tick begins_clean slot_number claimed timing view install votes answer_at present_view view_tick is_released expected_votes device_yes majority_view phase holds stop_due may_stop told out_time slot_read_since reset_since least_from unmet mail_tick wanted_with_delay moment acts outs_at with_entry log_from
first_sees = refl

second_sees : view (log_of four_nodes 2 second_history) ≡ Some (sees 3 12)
unfolding op_out ask_place ask_tick begins_clean slot_number claimed timing view install votes answer_at present_view view_tick is_released expected_votes device_yes majority_view phase holds stop_due may_stop told out_time slot_read_since reset_since least_from unmet mail_tick wanted_with_delay moment acts outs_at with_entry log_from
second_sees = refl

alike : SplitAlike four_nodes (log_of four_nodes 0 first_history) (log_of four_nodes 2 second_history)
unfolding op_out ask_place ask_tick begins_clean slot_number claimed timing view install votes answer_at present_view view_tick is_released expected_votes device_yes majority_view phase holds stop_due may_stop told out_time slot_read_since reset_since least_from unmet mail_tick wanted_with_delay moment acts outs_at with_entry log_from
alike = record {
  valid = four_nodes_valid;
  breaker_on = refl;
  same_majority = λ rank. refl;
  same_expected = refl;
  whole = omega arith;
}

first_goes_on : quorate_with_tie four_nodes (log_of four_nodes 0 first_history) 0 ≡ true
unfolding op_out ask_place ask_tick begins_clean slot_number claimed timing view install votes answer_at present_view view_tick is_released expected_votes device_yes majority_view phase holds stop_due may_stop told out_time slot_read_since reset_since least_from unmet mail_tick wanted_with_delay moment acts outs_at with_entry log_from
first_goes_on = refl

first_has_half : quorate four_nodes (log_of four_nodes 0 first_history) 0 ≡ false
unfolding op_out ask_place ask_tick begins_clean slot_number claimed timing view install votes answer_at present_view view_tick is_released expected_votes device_yes majority_view phase holds stop_due may_stop told out_time slot_read_since reset_since least_from unmet mail_tick wanted_with_delay moment acts outs_at with_entry log_from
first_has_half = refl

pub one_half_goes_on : OneHalfGoesOn
one_half_goes_on = record {
  settings = four_nodes;
  first = 0;
  second = 2;
  first_history = first_history;
  second_history = second_history;
  tick = 0;
  left = sees 2 3;
  right = sees 3 12;
  alike = alike;
  first_sees = first_sees;
  second_sees = second_sees;
  apart = halves_apart;
  goes_on = first_goes_on;
  not_by_votes = first_has_half;
}

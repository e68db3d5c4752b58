-- One node, or two nodes, of one vote each, with ids 1 and 2, as worked schedules have them.
use Rattle.std.proofs.Common.{◌≡◌, ◌≤◌, ◌<◌, ◌+◌, ℕ, true, false, List, [], ◌∷◌, None, slice_index, All, refl, sym, subst, arith}
use Rattle.std.proofs.lemmas.Bool.{false≢true}
use Rattle.std.proofs.lemmas.List.Elements.{All-nil, All-cons}
use Rattle.qn_base.specs.declared.ids.Rank.{Rank}
use Rattle.qn_model.specs.declared.configuration.Settings.{Settings}
use Rattle.qn_model.specs.declared.nodelist.NodeEntry.{NodeEntry}
use Rattle.qn_model.specs.Settings.{IsValid, ids}

abbrev pub first_node : NodeEntry
first_node = record { id = record { 0 = 1 }; votes = 1; fence_delay = 0 }

abbrev pub second_node : NodeEntry
second_node = record { id = record { 0 = 2 }; votes = 1; fence_delay = 0 }

abbrev pub first : Rank
first = record { 0 = 0 }

abbrev pub second : Rank
second = record { 0 = 1 }

abbrev pub one_node : Settings
one_node =
    record {
      nodes = first_node ∷ [];
      two_node = false;
      wait_for_all = false;
      last_man_standing = false;
      window = 10000;
      device = None;
      expected = 1;
      tie = None;
    }

-- with two_node and without wait_for_all
abbrev pub two_nodes : Settings
two_nodes =
    record {
      nodes = first_node ∷ second_node ∷ [];
      two_node = true;
      wait_for_all = false;
      last_man_standing = false;
      window = 10000;
      device = None;
      expected = 2;
      tie = None;
    }

pub each_of_two : (P : NodeEntry → Type 0) → P first_node → P second_node → All P (first_node ∷ second_node ∷ [])
each_of_two P one two = All-cons P first_node (second_node ∷ []) one (All-cons P second_node [] two (All-nil P))

pub two_ids_ascend : (k : ℕ) → k + 1 < 2
    → slice_index (ids (first_node ∷ second_node ∷ [])) k < slice_index (ids (first_node ∷ second_node ∷ [])) (k + 1)
two_ids_ascend k below =
    let same : k ≡ 0 = omega arith in
    subst (λ n. slice_index (ids (first_node ∷ second_node ∷ [])) n < slice_index (ids (first_node ∷ second_node ∷ [])) (n + 1)) (sym same) (omega arith)

pub two_nodes_valid : IsValid two_nodes
two_nodes_valid = record {
  some_node = omega arith;
  few_nodes = omega arith;
  ids_from_one = each_of_two (λ n. 1 ≤ n.id.0) (omega arith) (omega arith);
  ids_fit = each_of_two (λ n. n.id.0 ≤ 4294967295) (omega arith) (omega arith);
  ids_ascend = two_ids_ascend;
  votes_fit = each_of_two (λ n. n.votes ≤ 65535) (omega arith) (omega arith);
  some_vote = omega arith;
  some_expected = omega arith;
  window = (omega arith, omega arith);
  timeout = tt;
  two_nodes = λ e. refl;
  two_votes = λ e. each_of_two (λ n. n.votes ≡ 1) refl refl;
  two_alone = λ e. refl;
  last_man_votes = λ e. absurd (false≢true e);
  delays_fit = each_of_two (λ n. n.fence_delay ≤ 3600000) (omega arith) (omega arith);
  tie_order = tt;
  tie_alone = λ e. absurd (false≢true e);
}

-- Two nodes of one vote each and a device of one vote, as worked schedules have them.
use Rattle.std.proofs.Common.{◌≡◌, ◌≤◌, ◌<◌, ◌==◌, ◌⊎◌, inl, inr, ℕ, suc, zero, true, false, [], ◌∷◌, Some, None, refl, sym, ap, ◌∙◌, subst, arith, length}
use Rattle.std.proofs.lemmas.Bool.{cases_eq, false≢true}
use Rattle.std.proofs.lemmas.Nat.Bits.{bit_at-pow_other}
use Rattle.qn_base.specs.Members.{is_member}
use Rattle.qn_model.specs.declared.configuration.Settings.{Settings}
use Rattle.qn_model.specs.lemmas.TwoNodes.{first_node, second_node, each_of_two, two_ids_ascend}
use Rattle.qn_model.specs.Laws.{AreDisjoint}
use Rattle.qn_model.specs.Settings.{IsValid}

-- with a device whose yes counts for so many milliseconds
abbrev pub with_device : ℕ → Settings
with_device timeout =
    record {
      nodes = first_node ∷ second_node ∷ [];
      two_node = false;
      wait_for_all = false;
      last_man_standing = false;
      window = 10000;
      device = Some (record { votes = 1; timeout = timeout });
      expected = 3;
      tie = None;
    }

pub with_device_valid : (timeout : ℕ) → 1 ≤ timeout → timeout ≤ 3600000 → IsValid (with_device timeout)
with_device_valid timeout some fits = record {
  some_node = omega arith;
  few_nodes = omega arith;
  ids_from_one = each_of_two (λ n. 1 ≤ n.id.0) (omega arith) (omega arith);
  ids_fit = each_of_two (λ n. n.id.0 ≤ 4294967295) (omega arith) (omega arith);
  ids_ascend = two_ids_ascend;
  votes_fit = each_of_two (λ n. n.votes ≤ 65535) (omega arith) (omega arith);
  some_vote = omega arith;
  some_expected = omega arith;
  window = (omega arith, omega arith);
  timeout = (some, fits);
  two_nodes = λ e. refl;
  two_votes = λ e. each_of_two (λ n. n.votes ≡ 1) refl refl;
  two_alone = λ e. absurd (false≢true e);
  last_man_votes = λ e. absurd (false≢true e);
  delays_fit = each_of_two (λ n. n.fence_delay ≤ 3600000) (omega arith) (omega arith);
  tie_order = tt;
  tie_alone = λ e. absurd (false≢true e);
}

-- views of one node each have no node in common, whatever their numbers are
pub views_apart : (one other : ℕ) → AreDisjoint (record { id = one; members = record { 0 = 1 } }) (record { id = other; members = record { 0 = 2 } })
views_apart one other rank in_left in_right = by_rank (cases_eq rank 0)
  where
    by_rank : (rank ≡ 0) ⊎ ((rank ≡ 0) → ⊥) → ⊥
    by_rank (inl same) = false≢true (subst (λ r. is_member (record { 0 = 2 }) r ≡ true) same in_right)
    by_rank (inr differs) = false≢true (sym (ap (λ n. n == 1) (bit_at-pow_other 0 rank differs)) ∙ in_left)

-- what is so of both ranks is so of each
pub of_each_node : (P : ℕ → Type 0) → P 0 → P 1 → (rank : ℕ) → rank < length (with_device 10).nodes → P rank
of_each_node P one two zero below = one
of_each_node P one two (suc zero) below = two
of_each_node P one two (suc (suc rank)) below = absurd (omega arith)

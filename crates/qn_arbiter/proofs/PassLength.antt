-- The words of a pass after its first fit a line together.
use Rattle.std.proofs.Common.{◌≡◌, ◌+◌, ◌<◌, ◌≤◌, ℕ, true, ◌&&◌, List, [], ◌∷◌, map, length, nat_le, nat_lt, slice_index, arith}
use Rattle.std.specs.Prelude.{decimal}
use Rattle.std.specs.List.{join_with_byte, list_all}
use Rattle.std.proofs.lemmas.Bool.{and_parts, cases_lt, leb-true, ltb-true}
use Rattle.std.proofs.lemmas.List.{length-append, length-map}
use Rattle.qn_base.specs.declared.ids.Rank.{Rank}
use Rattle.qn_base.specs.lemmas.Decimals.{length-decimal}
use Rattle.qn_model.specs.declared.configuration.Settings.{Settings}
use Rattle.qn_model.specs.declared.events.Event.TheVariants.{Pass}
use Rattle.qn_model.specs.lemmas.Ids.{id_fits}
use Rattle.qn_model.specs.Lines.{is_ascending}
use Rattle.qn_model.specs.Rules.{is_between, is_clock, is_configured, is_well_formed}
use Rattle.qn_model.specs.Settings.{IsValid, ids}
use Rattle.qn_sched.specs.EventLines.{clock_word, id_word}
use Rattle.qn_arbiter.proofs.WordsOfLines.{AreShort, length_joined}

abbrev ranks_of : List (Rank × ℕ) → List ℕ
ranks_of clocks = map (λ (clock : Rank × ℕ). clock.0.0) clocks

-- ranks below a number that ascend are fewer
few_ranks : (s : Settings) (clock : Rank × ℕ) (clocks : List (Rank × ℕ)) → is_ascending (ranks_of (clock ∷ clocks)) ≡ true → list_all (is_clock s) (clock ∷ clocks) ≡ true
    → clock.0.0 + length clocks < length s.nodes
few_ranks s clock [] ascends all =
    let both = and_parts (is_clock s clock) true all in
    let inside = ltb-true clock.0.0 (length s.nodes) (and_parts (is_configured s clock.0.0) (nat_le clock.1 1000000000000) both.0).0 in
    omega (arith, inside)
few_ranks s clock (next ∷ clocks) ascends all =
    let both = and_parts (is_clock s clock) (list_all (is_clock s) (next ∷ clocks)) all in
    let order = and_parts (nat_lt clock.0.0 next.0.0) (is_ascending (ranks_of (next ∷ clocks))) ascends in
    let above = ltb-true clock.0.0 next.0.0 order.0 in
    let later = few_ranks s next clocks order.1 both.1 in
    omega (arith, above, later)

few_clocks : (s : Settings) (clocks : List (Rank × ℕ)) → is_ascending (ranks_of clocks) ≡ true → list_all (is_clock s) clocks ≡ true → length clocks ≤ length s.nodes
few_clocks s [] ascends all = omega arith
few_clocks s (clock ∷ clocks) ascends all = let few = few_ranks s clock clocks ascends all in omega (arith, few)

module _ (s : Settings) (valid : IsValid s) where
  id_short : (rank : Rank) → length (id_word (ids s.nodes) rank) ≤ 20
  id_short rank = length-decimal (slice_index (ids s.nodes) rank.0) (id_fits s.nodes valid.ids_fit rank.0 (cases_lt rank.0 (length s.nodes)))

  clocks_short : (clocks : List (Rank × ℕ)) → list_all (is_clock s) clocks ≡ true → AreShort (map (clock_word (ids s.nodes)) clocks)
  clocks_short [] all = tt
  clocks_short (clock ∷ clocks) all =
      let both = and_parts (is_clock s clock) (list_all (is_clock s) clocks) all in
      let range = and_parts (is_configured s clock.0.0) (nat_le clock.1 1000000000000) both.0 in
      let below = leb-true clock.1 1000000000000 range.1 in
      let first = id_short clock.0 in
      let second = length-decimal clock.1 (omega arith) in
      let whole = length-append (id_word (ids s.nodes) clock.0) (61 ∷ decimal clock.1) in
      (omega (arith, whole, first, second), clocks_short clocks both.1)

  pub length_pass : (dt : ℕ) (clocks : List (Rank × ℕ)) → is_well_formed s (Pass dt clocks) ≡ true
      → length (join_with_byte 32 (decimal dt ∷ map (clock_word (ids s.nodes)) clocks)) ≤ 1386
  unfolding is_well_formed
  length_pass dt clocks formed =
      let all = and_parts (is_between 1 1000000000 dt && list_all (is_clock s) clocks) (is_ascending (ranks_of clocks)) formed in
      let first = and_parts (is_between 1 1000000000 dt) (list_all (is_clock s) clocks) all.0 in
      let below = leb-true dt 1000000000 (and_parts (nat_le 1 dt) (nat_le dt 1000000000) first.0).1 in
      let digits = length-decimal dt (omega arith) in
      let few = few_clocks s clocks all.1 first.1 in
      let count = length-map clocks (clock_word (ids s.nodes)) in
      let nodes = valid.few_nodes in
      let whole = length_joined (decimal dt ∷ map (clock_word (ids s.nodes)) clocks) (omega (arith, digits), clocks_short clocks first.1) in
      omega (arith, whole, few, count, nodes)

-- A word is accepted as the id of a node exactly where it is that id in decimal digits.
use Rattle.std.proofs.Common.{◌≡◌, ◌-◌, ◌^◌, ◌<◌, ◌==◌, ℕ, Bool, cond, List, Option, Some, None, Ok, length, slice_index, refl, sym, ap, ◌∙◌, subst, arith, eq-eqb, ne_eqb, nat_lt, position, lt-ltb}
use Rattle.std.specs.Prelude.{decimal}
use Rattle.std.specs.Option.{ok_or}
use Rattle.std.specs.List.{position_or_len}
use Rattle.std.specs.List.Sorted.{IsStrictlyIncreasing}
use Rattle.std.proofs.lemmas.Bool.Decides.{Decides-eqb}
use Rattle.std.proofs.lemmas.Bool.{cases_lt}
use Rattle.std.proofs.lemmas.List.{length-map}
use Rattle.std.proofs.lemmas.List.Kept.{AllPairs-from_increasing}
use Rattle.std.proofs.lemmas.List.Quantifiers.{position-Some}
use Rattle.std.proofs.lemmas.List.Sums.{position_or_len_is}
use Rattle.qn_base.specs.declared.ids.Rank.{Rank}
use Rattle.qn_model.specs.declared.configuration.Settings.{Settings}
use Rattle.qn_model.specs.declared.nodelist.NodeEntry.{NodeEntry}
use Rattle.qn_model.specs.Settings.{ids, IsValid}
use Rattle.qn_model.specs.declared.line_fault.LineFault.TheVariants.{UnknownNode}
use Rattle.qn_model.specs.lemmas.Ids.{id_fits}
use Rattle.qn_model.specs.lemmas.Lines.{bind_ok, same_ok}
use Rattle.qn_model.specs.Lines.{known_rank, number_between}
use Rattle.qn_sched.specs.EventLines.{id_word}
use Rattle.qn_sched.specs.EventReading.{rank_of}
use Rattle.qn_sched.specs.WrittenNumbers.{number_between-decimal, number_between-ok}

-- the ids of nodes: they ascend, and fit 64 bits
pub record AreIds (ids : List ℕ) : Type 0 where
  pub ascend : IsStrictlyIncreasing ids
  pub fit : (k : ℕ) → slice_index ids k < 2 ^ 64

ok_or-ok : (o : Option ℕ) (n : ℕ) → ok_or o UnknownNode ≡ Ok n → o ≡ Some n
ok_or-ok None n is = cc
ok_or-ok (Some m) n is = cc

-- what is accepted is the id of a node
pub record IsId (ids word : List ℕ) (rank : ℕ) : Type 0 where
  pub inside : rank < length ids
  pub word_is : word ≡ decimal (slice_index ids rank)

pub known_rank-ok : (ids word : List ℕ) (rank : ℕ) → known_rank ids word ≡ Ok rank → IsId ids word rank
unfolding known_rank
known_rank-ok ids word rank is =
    let step = bind_ok (number_between 0 (2 ^ 64 - 1) word) _ rank is in
    let found = position-Some (λ k. k == step.0) ids rank 0 (ok_or-ok _ rank step.2) in
    record {
      inside = found.0;
      word_is = (number_between-ok 0 (2 ^ 64 - 1) word step.0 step.1).word_is ∙ ap decimal (sym ((Decides-eqb (slice_index ids rank) step.0).0 found.1));
    }

-- of two places, that of the lesser id comes first
pub id_lt : (ids : List ℕ) → AreIds ids → (i j : ℕ) → i < j → j < length ids → slice_index ids i < slice_index ids j
id_lt ids known i j before inside = AllPairs-from_increasing ids known.ascend i j 0 before inside

place_of_id : (ids : List ℕ) → AreIds ids → (rank : ℕ) → rank < length ids → position (λ k. k == slice_index ids rank) ids ≡ Some rank
place_of_id ids known rank inside =
    let test : ℕ → Bool = λ k. k == slice_index ids rank in
    let place : position_or_len test ids ≡ rank =
    position_or_len_is test ids rank 0 (omega arith)
    (λ k before. ne_eqb (slice_index ids k) (slice_index ids rank) (λ same. let less = id_lt ids known k rank before inside in omega arith))
    (λ within. eq-eqb (slice_index ids rank) (slice_index ids rank) refl) in
    ap (λ p. cond (nat_lt p (length ids)) (Some p) None) place ∙ ap (λ b. cond b (Some rank) None) (lt-ltb rank (length ids) inside)

-- the id of a node is accepted
pub known_rank-id : (ids : List ℕ) → AreIds ids → (rank : ℕ) → rank < length ids → known_rank ids (decimal (slice_index ids rank)) ≡ Ok rank
unfolding known_rank
known_rank-id ids known rank inside =
    let id = slice_index ids rank in
    let fits : id < 2 ^ 64 = known.fit rank in
    rw (number_between-decimal 0 (2 ^ 64 - 1) id (omega arith) (omega arith) fits, place_of_id ids known rank inside) refl

-- the same of ranks
pub rank_of-ok : (ids word : List ℕ) (rank : Rank) → rank_of ids word ≡ Ok rank → IsId ids word rank.0
unfolding rank_of
rank_of-ok ids word rank is =
    let step = bind_ok (known_rank ids word) _ rank is in
    subst (λ (r : Rank). IsId ids word r.0) (same_ok _ rank step.2) (known_rank-ok ids word step.0 step.1)

pub rank_of-id : (ids : List ℕ) → AreIds ids → (rank : Rank) → rank.0 < length ids → rank_of ids (id_word ids rank) ≡ Ok rank
unfolding rank_of
rank_of-id ids known rank inside = rw (known_rank-id ids known rank.0 inside) refl

-- the ids of valid settings
pub valid_ids : (s : Settings) → IsValid s → AreIds (ids s.nodes)
valid_ids s valid = record { ascend = valid.ids_ascend; fit = λ k. id_fits s.nodes valid.ids_fit k (cases_lt k (length s.nodes)) }

pub length-ids : (nodes : List NodeEntry) → length (ids nodes) ≡ length nodes
length-ids nodes = length-map nodes (λ (n : NodeEntry). n.id.0)

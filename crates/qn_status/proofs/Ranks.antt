-- The nodes of a world, rank by rank.
use Rattle.std.proofs.Common.{◌≡◌, ℕ, zero, suc, ◌+◌, List, [], ◌∷◌, ◌++◌, sym, ap, ap₂, ◌∙◌, arith, add-one, add-zero, map}
use Rattle.std.specs.List.{range_with_len}
use Rattle.std.proofs.lemmas.List.{map-append}
use Rattle.qn_status.specs.declared.node_state.NodeState.{NodeState}

-- one rank more
range_suc : (from count : ℕ) → range_with_len from (suc count) ≡ range_with_len from count ++ (from + count) ∷ []
range_suc from zero = ap (λ n. n ∷ []) (sym (add-zero from))
range_suc from (suc count) =
    let next : (from + 1) + count ≡ from + suc count = omega arith in
    ap (λ xs. from ∷ xs) (range_suc (from + 1) count ∙ ap (λ n. range_with_len (from + 1) count ++ n ∷ []) next)

zero_plus : (count : ℕ) → 0 + count ≡ count
zero_plus count = omega arith

-- the node of one rank more
pub states_more : (f : ℕ → NodeState) (items new : List NodeState) (count : ℕ) (node : NodeState) → items ≡ map f (range_with_len 0 count) → node ≡ f count
    → new ≡ items ++ node ∷ [] → new ≡ map f (range_with_len 0 (count + 1))
states_more f items new count node before node_is new_is =
    new_is ∙ ap₂ (λ xs n. xs ++ n ∷ []) before node_is
    ∙ sym (ap (λ n. map f (range_with_len 0 n)) (add-one count) ∙ ap (λ xs. map f xs) (range_suc 0 count)
    ∙ map-append f (range_with_len 0 count) ((0 + count) ∷ []) ∙ ap (λ n. map f (range_with_len 0 count) ++ f n ∷ []) (zero_plus count))

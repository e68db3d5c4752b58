-- The nodes of the settings: how many, their votes, their order.
use Rattle.std.proofs.Common.{◌≡◌, ℕ, suc, zero, ◌+◌, ◌≤◌, not, cond, Bool, true, false, List, [], ◌∷◌, length, fold, Option, Some, None, refl, sym, ap, subst, ◌∙◌, arith, if◌then◌else◌}
use Rattle.std.specs.Prelude.{All, insert, unwrap_or, nat_lt}
use Rattle.std.specs.List.{prefix_len}
use Rattle.std.specs.List.Sorted.{IsStrictlyIncreasing}
use Rattle.std.proofs.lemmas.List.Elements.{All-cons, All-head, All-tail}
use Rattle.std.proofs.lemmas.List.Sums.{prefix_len-le-length, sum_by-le}
use borrow.Author.Tests.{ltb-true, ltb-false, eqb-false}
use Rattle.qn_base.specs.declared.ids.NodeId.{NodeId}
use Rattle.qn_model.specs.declared.nodelist.NodeEntry.{NodeEntry}
use Rattle.qn_model.specs.Settings.{all_votes, ids}
use Rattle.qn_settings.specs.Nodes.{begins_with_id, put_by_id, repeated_in}

-- 32 nodes have at most 32 times the votes of one
pub all_votes-bound :
    (nodes : List NodeEntry) → length nodes ≤ 32 → All (λ n. n.votes ≤ 65535) nodes → all_votes nodes ≤ 2097120
all_votes-bound nodes few fit = omega (arith, sum_by-le (λ n. n.votes) 65535 nodes fit)

-- `put_by_id`, by recursion
abbrev pub placed : NodeEntry → List NodeEntry → List NodeEntry
placed node [] = node ∷ []
placed node (other ∷ nodes) =
    if nat_lt node.id.0 other.id.0 then node ∷ other ∷ nodes else other ∷ placed node nodes

abbrev stays : NodeEntry → NodeEntry → Bool
stays node other = not (nat_lt node.id.0 other.id.0)

place_is : (b : Bool) (place len : ℕ) → b ≡ nat_lt place len → place ≤ len → unwrap_or (cond b (Some place) None) len ≡ place
place_is true place len is low = refl
place_is false place len is low = let past = ltb-false place len (sym is) in omega arith

insert-skip : (node other : NodeEntry) (nodes : List NodeEntry) (k : ℕ) → insert (other ∷ nodes) (1 + k) node ≡ other ∷ insert nodes k node
insert-skip node other nodes k = let next : 1 + k ≡ suc k = omega arith in rw next refl

insert-step :
    (node other : NodeEntry) (nodes : List NodeEntry) (b : Bool)
    → insert nodes (prefix_len (stays node) nodes) node ≡ placed node nodes
    → insert (other ∷ nodes) (cond (not b) (1 + prefix_len (stays node) nodes) 0) node
    ≡ (if b then node ∷ other ∷ nodes else other ∷ placed node nodes)
insert-step node other nodes true e = refl
insert-step node other nodes false e = insert-skip node other nodes _ ∙ ap (λ rest. other ∷ rest) e

insert-placed : (node : NodeEntry) (nodes : List NodeEntry) → insert nodes (prefix_len (stays node) nodes) node ≡ placed node nodes
insert-placed node [] = refl
insert-placed node (other ∷ nodes) = insert-step node other nodes (nat_lt node.id.0 other.id.0) (insert-placed node nodes)

pub put-placed : (nodes : List NodeEntry) (node : NodeEntry) → put_by_id nodes node ≡ placed node nodes
put-placed nodes node =
    ap (λ place. insert nodes place node)
    (place_is _ (prefix_len (stays node) nodes) (length nodes) refl (prefix_len-le-length (stays node) nodes))
    ∙ insert-placed node nodes

length-choice :
    (b : Bool) (node other : NodeEntry) (nodes : List NodeEntry)
    → length (placed node nodes) ≡ suc (length nodes)
    → length (if b then node ∷ other ∷ nodes else other ∷ placed node nodes) ≡ suc (suc (length nodes))
length-choice true node other nodes e = refl
length-choice false node other nodes e = ap suc e

pub length-placed : (node : NodeEntry) (nodes : List NodeEntry) → length (placed node nodes) ≡ suc (length nodes)
length-placed node [] = refl
length-placed node (other ∷ nodes) = length-choice (nat_lt node.id.0 other.id.0) node other nodes (length-placed node nodes)

All-choice :
    (b : Bool) (P : NodeEntry → Type 0) (node other : NodeEntry) (nodes : List NodeEntry)
    → P node → All P (other ∷ nodes) → All P (placed node nodes)
    → All P (if b then node ∷ other ∷ nodes else other ∷ placed node nodes)
All-choice true P node other nodes own others e = All-cons P node (other ∷ nodes) own others
All-choice false P node other nodes own others e = All-cons P other (placed node nodes) (All-head P other nodes others) e

pub All-placed : (P : NodeEntry → Type 0) (node : NodeEntry) (nodes : List NodeEntry) → P node → All P nodes → All P (placed node nodes)
All-placed P node [] own others = All-cons P node [] own others
All-placed P node (other ∷ nodes) own others =
    All-choice (nat_lt node.id.0 other.id.0) P node other nodes own others (All-placed P node nodes own (All-tail P other nodes others))

-- no node of the list has a lesser id than this
abbrev pub IsAbove : ℕ → List NodeEntry → Type 0
IsAbove low [] = Unit {0}
IsAbove low (node ∷ nodes) = low ≤ node.id.0

-- no id is less than the one before it
abbrev pub Ascends : List NodeEntry → Type 0
Ascends [] = Unit {0}
Ascends (node ∷ nodes) = IsAbove node.id.0 nodes × Ascends nodes

above_choice :
    (b : Bool) (low : ℕ) (node other : NodeEntry) (nodes : List NodeEntry)
    → low ≤ node.id.0 → low ≤ other.id.0
    → IsAbove low (if b then node ∷ other ∷ nodes else other ∷ placed node nodes)
above_choice true low node other nodes own others = own
above_choice false low node other nodes own others = others

above_placed : (low : ℕ) (node : NodeEntry) (nodes : List NodeEntry) → low ≤ node.id.0 → IsAbove low nodes → IsAbove low (placed node nodes)
above_placed low node [] own others = own
above_placed low node (other ∷ nodes) own others = above_choice (nat_lt node.id.0 other.id.0) low node other nodes own others

Ascends-choice :
    (b : Bool) (node other : NodeEntry) (nodes : List NodeEntry)
    → b ≡ nat_lt node.id.0 other.id.0
    → Ascends (other ∷ nodes) → Ascends (placed node nodes)
    → Ascends (if b then node ∷ other ∷ nodes else other ∷ placed node nodes)
Ascends-choice true node other nodes is order rest = let less = ltb-true _ _ (sym is) in (omega arith, order)
Ascends-choice false node other nodes is order rest =
    (above_placed other.id.0 node nodes (ltb-false _ _ (sym is)) order.0, rest)

pub Ascends-placed : (node : NodeEntry) (nodes : List NodeEntry) → Ascends nodes → Ascends (placed node nodes)
Ascends-placed node [] order = (tt, tt)
Ascends-placed node (other ∷ nodes) order =
    Ascends-choice (nat_lt node.id.0 other.id.0) node other nodes refl order (Ascends-placed node nodes order.1)

-- what is kept while nodes are put in
pub length-fold : (nodes more : List NodeEntry) → length (fold put_by_id nodes more) ≡ length nodes + length more
length-fold nodes [] = omega arith
length-fold nodes (node ∷ more) =
    omega (arith, length-fold (put_by_id nodes node) more, ap length (put-placed nodes node), length-placed node nodes)

pub All-fold :
    (P : NodeEntry → Type 0) (nodes more : List NodeEntry) → All P nodes → All P more → All P (fold put_by_id nodes more)
All-fold P nodes [] have add = have
All-fold P nodes (node ∷ more) have add =
    All-fold P (put_by_id nodes node) more
    (subst (All P) (sym (put-placed nodes node)) (All-placed P node nodes (All-head P node more add) have))
    (All-tail P node more add)

pub Ascends-fold : (nodes more : List NodeEntry) → Ascends nodes → Ascends (fold put_by_id nodes more)
Ascends-fold nodes [] order = order
Ascends-fold nodes (node ∷ more) order =
    let P : List NodeEntry → Type 0 = Ascends
    in Ascends-fold (put_by_id nodes node) more (subst P (sym (put-placed nodes node)) (Ascends-placed node nodes order))

not_repeated :
    (b : Bool) (id : NodeId) (rest : Option NodeId) → (if b then Some id else rest) ≡ None → (b ≡ false) × (rest ≡ None)
not_repeated true id rest e = cc
not_repeated false id rest e = (refl, e)

-- without a repeated id they ascend strictly
pub strictly :
    (nodes : List NodeEntry) → Ascends nodes → repeated_in nodes ≡ None → IsStrictlyIncreasing (ids nodes)
strictly [] order once k within = absurd (omega arith)
strictly (node ∷ []) order once k within = absurd (omega arith)
strictly (node ∷ next ∷ nodes) order once zero within =
    let apart = not_repeated (begins_with_id node.id (next ∷ nodes)) node.id _ once
    in let differ = eqb-false node.id.0 next.id.0 apart.0
    in omega arith
strictly (node ∷ next ∷ nodes) order once (suc k) within =
    let apart = not_repeated (begins_with_id node.id (next ∷ nodes)) node.id _ once
    in let after : suc k + 1 ≡ suc (k + 1) = omega arith
    in rw after (strictly (next ∷ nodes) order.1 apart.1 k (omega arith))

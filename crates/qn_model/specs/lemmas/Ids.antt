-- The id of a rank, and that it fits.
use Rattle.std.proofs.Common.{◌≡◌, ℕ, suc, zero, ◌^◌, ◌<◌, ◌≤◌, ◌⊎◌, inl, inr, List, [], ◌∷◌, length, Some, get_or, slice_index, refl, subst, arith}
use Rattle.std.specs.Prelude.{All, slice_get}
use Rattle.std.proofs.lemmas.List.{get_or-map, get_or_past, length-map}
use Rattle.qn_model.specs.declared.nodelist.NodeEntry.{NodeEntry}
use Rattle.qn_model.specs.Settings.{ids}
use Rattle.qn_model.specs.Unmet.{id_from}

pub id_from-configured : (nodes : List NodeEntry) (rank : ℕ) (node : NodeEntry) → slice_get nodes rank ≡ Some node
    → node.id ≡ id_from nodes rank
id_from-configured [] zero node e = cc
id_from-configured [] (suc rank) node e = cc
id_from-configured (first ∷ nodes) zero node e = cc
id_from-configured (first ∷ nodes) (suc rank) node e = id_from-configured nodes rank node e

pub id_from-past : (nodes : List NodeEntry) (rank : ℕ) → length nodes ≤ rank → id_from nodes rank ≡ record { 0 = 0 }
id_from-past [] rank past = refl
id_from-past (first ∷ nodes) zero past = absurd (omega arith)
id_from-past (first ∷ nodes) (suc rank) past = id_from-past nodes rank (omega arith)

pub id_from-number : (nodes : List NodeEntry) (rank : ℕ) → (id_from nodes rank).0 ≡ slice_index (ids nodes) rank
id_from-number [] rank = refl
id_from-number (first ∷ nodes) zero = refl
id_from-number (first ∷ nodes) (suc rank) = id_from-number nodes rank

pub id_from-get : (nodes : List NodeEntry) (rank : ℕ) (d : NodeEntry) → rank < length nodes → (get_or nodes rank d).id ≡ id_from nodes rank
id_from-get [] rank d here = absurd (omega arith)
id_from-get (node ∷ nodes) zero d here = refl
id_from-get (node ∷ nodes) (suc rank) d here = id_from-get nodes rank d (omega arith)

pub id_from-one : (nodes : List NodeEntry) (rank : ℕ) → All (λ n. 1 ≤ n.id.0) nodes → rank < length nodes → 1 ≤ (id_from nodes rank).0
id_from-one nodes rank from_one here =
    let none : NodeEntry = record { id = record { 0 = 0 }; votes = 0; fence_delay = 0 } in
    subst (λ id. 1 ≤ id.0) (id_from-get nodes rank none here) (from_one rank none here)

pub id_fits : (nodes : List NodeEntry) → All (λ n. n.id.0 ≤ 4294967295) nodes → (k : ℕ)
    → (k < length nodes) ⊎ (length nodes ≤ k) → slice_index (ids nodes) k < 2 ^ 64
id_fits nodes fit k (inl inside) =
    let none : NodeEntry = record { id = record { 0 = 0 }; votes = 0; fence_delay = 0 } in
    let below = fit k none inside in
    let same = get_or-map (λ (n : NodeEntry). n.id.0) nodes k none 0 inside in
    omega (arith, below, same)
id_fits nodes fit k (inr outside) =
    let past =
    get_or_past (ids nodes) k 0 (let same = length-map nodes (λ (n : NodeEntry). n.id.0) in omega (arith, same)) in
    omega (arith, past)

-- The order of preference of the tie breaker: what reading it word by word gives, and that it is an order of configured
-- nodes.
use Rattle.std.proofs.Common.{◌≡◌, ◌≢◌, ℕ, suc, zero, ◌+◌, ◌-◌, ◌<◌, ◌≤◌, ◌==◌, not, cond, ◌||◌, ◌&&◌, Bool, true, false, List, [], ◌∷◌, ◌++◌, map, length, get_or, take, drop, eqb, Option, Some, None, refl, sym, ap, ◌∙◌, arith, append_assoc, if◌then◌else◌}
use Rattle.std.specs.Prelude.{All, AllPairs, IfSome, codes, filter, option_and_then, option_map}
use Rattle.std.specs.Bool.{then_some}
use Rattle.std.specs.List.{AllByRecursion, IsDistinct, list_any, slice_split}
use Rattle.std.specs.Option.{option_map_or}
use Rattle.std.specs.Str.{bytes_eq}
use Rattle.std.proofs.lemmas.Bool.{false≢true, or_right, or_from}
use Rattle.std.proofs.lemmas.List.{append-nil, drop_all, get_or-reverse, length-map, length-reverse, take_all}
use Rattle.std.proofs.Math.Seq.{drop-cons, take-suc}
use Rattle.std.proofs.lemmas.List.Elements.{All-cons, All-head, All-tail}
use Rattle.std.proofs.lemmas.List.FromFn.{get_or-map-range_with_len, length-map-range_with_len}
use Rattle.std.proofs.lemmas.List.Quantifiers.{position-Some}
use Rattle.std.proofs.lemmas.Map.Steps.{length-le_from_distinct_below}
use borrow.Author.Tests.{eqb-true, eqb-false}
use Rattle.qn_base.specs.Decimal.{number_of}
use Rattle.qn_base.specs.declared.ids.Rank.{Rank}
use Rattle.qn_conf.specs.Line.{is_blank}
use Rattle.qn_model.specs.declared.nodelist.NodeEntry.{NodeEntry}
use Rattle.qn_model.specs.Settings.{IsOrder}
use Rattle.qn_model.specs.Wanted.{rank_of}
use Rattle.qn_settings.specs.declared.key.Key.TheVariants as keys
use Rattle.qn_settings.specs.declared.entries.Entry.{Entry}
use Rattle.qn_settings.specs.TieOrder.{all_named, as_order, has_twice, highest, listed, lowest, named, order_in, tie_of, with_id}
use Rattle.qn_settings.specs.Values.{flag, last_value}

-- a word that is not empty
abbrev pub is_word : List ℕ → Bool
is_word word = not (length word == 0)

-- the order that a text gives, whose first nodes were read and whose other parts are still to be read
abbrev pub read_on : List NodeEntry → List Rank → List (List ℕ) → Option (List Rank)
read_on nodes order parts = option_and_then (λ ranks. as_order (order ++ ranks)) (all_named nodes (filter is_word parts))

pub read_on-nothing : (nodes : List NodeEntry) (text : List ℕ) → read_on nodes [] (slice_split is_blank text) ≡ listed nodes text
read_on-nothing nodes text = refl

words-empty :
    (part : List ℕ) (parts : List (List ℕ)) → (length part == 0) ≡ true → filter is_word (part ∷ parts) ≡ filter is_word parts
words-empty part parts e = ap (λ b. cond (not b) (part ∷ filter is_word parts) (filter is_word parts)) e

words-word :
    (part : List ℕ) (parts : List (List ℕ)) → (length part == 0) ≡ false → filter is_word (part ∷ parts) ≡ part ∷ filter is_word parts
words-word part parts e = ap (λ b. cond (not b) (part ∷ filter is_word parts) (filter is_word parts)) e

-- an empty part is no word
read_on-empty :
    (nodes : List NodeEntry) (order : List Rank) (part : List ℕ) (parts : List (List ℕ))
    → (length part == 0) ≡ true → read_on nodes order (part ∷ parts) ≡ read_on nodes order parts
read_on-empty nodes order part parts e =
    ap (λ words. option_and_then (λ ranks. as_order (order ++ ranks)) (all_named nodes words)) (words-empty part parts e)

-- the order that a word leaves, from the node that it names
abbrev after_word : List NodeEntry → List Rank → List (List ℕ) → Option Rank → Option (List Rank)
after_word nodes order parts first =
    option_and_then (λ ranks. as_order (order ++ ranks))
    (option_and_then (λ rank. option_map (λ ranks. rank ∷ ranks) (all_named nodes (filter is_word parts))) first)

read_on-word :
    (nodes : List NodeEntry) (order : List Rank) (part : List ℕ) (parts : List (List ℕ))
    → (length part == 0) ≡ false → read_on nodes order (part ∷ parts) ≡ after_word nodes order parts (named nodes part)
read_on-word nodes order part parts e =
    ap (λ words. option_and_then (λ ranks. as_order (order ++ ranks)) (all_named nodes words)) (words-word part parts e)

named_next :
    (order : List Rank) (rank : Rank) (ranks : Option (List Rank))
    → option_and_then (λ more. as_order (order ++ more)) (option_map (λ more. rank ∷ more) ranks)
    ≡ option_and_then (λ more. as_order ((order ++ rank ∷ []) ++ more)) ranks
named_next order rank None = refl
named_next order rank (Some more) = ap as_order (sym (append_assoc order (rank ∷ []) more))

-- a word that names a node adds it
read_on-named :
    (nodes : List NodeEntry) (order : List Rank) (part : List ℕ) (parts : List (List ℕ)) (rank : Rank)
    → (length part == 0) ≡ false → named nodes part ≡ Some rank
    → read_on nodes order (part ∷ parts) ≡ read_on nodes (order ++ rank ∷ []) parts
read_on-named nodes order part parts rank some is =
    read_on-word nodes order part parts some ∙ ap (after_word nodes order parts) is ∙ named_next order rank (all_named nodes (filter is_word parts))

or_no : (a b : Bool) → (a || b) ≡ false → (a ≡ false) × (b ≡ false)
or_no true b e = cc
or_no false b e = (refl, e)

any_here : (test : Rank → Bool) (before : List Rank) (rank : Rank) (after : List Rank) → test rank ≡ true → list_any test (before ++ rank ∷ after) ≡ true
any_here test [] rank after e = ap (λ b. b || list_any test after) e
any_here test (first ∷ before) rank after e = or_right (test first) _ (any_here test before rank after e)

twice_by :
    (here : Bool) (first rank : Rank) (before after : List Rank)
    → here ≡ (first.0 == rank.0)
    → (here || list_any (λ other. other.0 == rank.0) before) ≡ true
    → (list_any (λ other. other.0 == rank.0) before ≡ true → has_twice (before ++ rank ∷ after) ≡ true)
    → (list_any (λ other. first.0 == other.0) (before ++ rank ∷ after) || has_twice (before ++ rank ∷ after)) ≡ true
twice_by true first rank before after is e later =
    ap (λ b. b || has_twice (before ++ rank ∷ after)) (any_here (λ other. first.0 == other.0) before rank after (sym is))
twice_by false first rank before after is e later = or_right (list_any (λ other. first.0 == other.0) (before ++ rank ∷ after)) _ (later e)

twice : (before : List Rank) (rank : Rank) (after : List Rank) → list_any (λ other. other.0 == rank.0) before ≡ true → has_twice (before ++ rank ∷ after) ≡ true
twice [] rank after e = absurd (false≢true e)
twice (first ∷ before) rank after e =
    twice_by (first.0 == rank.0) first rank before after refl e (twice before rank after)

no_order : (some : Bool) (ranks : List Rank) → has_twice ranks ≡ true → cond (some && not (has_twice ranks)) (Some ranks) None ≡ None
no_order true ranks e = ap (λ b. cond (not b) (Some ranks) None) e
no_order false ranks e = refl

twice_none :
    (order : List Rank) (rank : Rank) (ranks : Option (List Rank))
    → list_any (λ other. other.0 == rank.0) order ≡ true
    → option_and_then (λ more. as_order ((order ++ rank ∷ []) ++ more)) ranks ≡ None
twice_none order rank None e = refl
twice_none order rank (Some more) e =
    ap as_order (append_assoc order (rank ∷ []) more) ∙ no_order _ (order ++ rank ∷ more) (twice order rank more e)

-- a place among the parts, with what is read from there on
drop-part :
    (parts : List (List ℕ)) (k : ℕ) (part : List ℕ)
    → k < length parts → part ≡ get_or parts k part → drop k parts ≡ part ∷ drop (k + 1) parts
drop-part parts k part within is =
    let next : k + 1 ≡ suc k = omega arith
    in rw next (drop-cons parts k part within ∙ ap (λ first. first ∷ drop (suc k) parts) (sym is))

pub after_empty :
    (nodes : List NodeEntry) (order : List Rank) (parts : List (List ℕ)) (k : ℕ) (part : List ℕ) (whole : Option (List Rank))
    → k < length parts → part ≡ get_or parts k part → read_on nodes order (drop k parts) ≡ whole
    → (length part == 0) ≡ true → read_on nodes order (drop (k + 1) parts) ≡ whole
after_empty nodes order parts k part whole within is so_far empty =
    sym (ap (read_on nodes order) (drop-part parts k part within is) ∙ read_on-empty nodes order part (drop (k + 1) parts) empty) ∙ so_far

pub after_unnamed :
    (nodes : List NodeEntry) (order : List Rank) (parts : List (List ℕ)) (k : ℕ) (part : List ℕ) (whole : Option (List Rank))
    → k < length parts → part ≡ get_or parts k part → read_on nodes order (drop k parts) ≡ whole
    → (length part == 0) ≡ false → named nodes part ≡ None → None ≡ whole
after_unnamed nodes order parts k part whole within is so_far some unnamed =
    sym (ap (read_on nodes order) (drop-part parts k part within is)
    ∙ read_on-word nodes order part (drop (k + 1) parts) some
    ∙ ap (after_word nodes order (drop (k + 1) parts)) unnamed)
    ∙ so_far

pub after_named :
    (nodes : List NodeEntry) (order : List Rank) (parts : List (List ℕ)) (k : ℕ) (part : List ℕ) (rank : Rank) (whole : Option (List Rank))
    → k < length parts → part ≡ get_or parts k part → read_on nodes order (drop k parts) ≡ whole
    → (length part == 0) ≡ false → named nodes part ≡ Some rank
    → read_on nodes (order ++ rank ∷ []) (drop (k + 1) parts) ≡ whole
after_named nodes order parts k part rank whole within is so_far some names =
    sym (ap (read_on nodes order) (drop-part parts k part within is) ∙ read_on-named nodes order part (drop (k + 1) parts) rank some names) ∙ so_far

-- a word that names a node again leaves no order
pub after_again :
    (nodes : List NodeEntry) (order : List Rank) (parts : List (List ℕ)) (k : ℕ) (part : List ℕ) (rank : Rank) (whole : Option (List Rank))
    → k < length parts → part ≡ get_or parts k part → read_on nodes order (drop k parts) ≡ whole
    → (length part == 0) ≡ false → named nodes part ≡ Some rank
    → list_any (λ other. other.0 == rank.0) order ≡ true → None ≡ whole
after_again nodes order parts k part rank whole within is so_far some names again =
    sym (twice_none order rank (all_named nodes (filter is_word (drop (k + 1) parts))) again)
    ∙ after_named nodes order parts k part rank whole within is so_far some names

and_yes : {X : Type 0} (some twice : Bool) (there : X) → twice ≡ false → then_some some there ≡ cond (some && not twice) (Some there) None
and_yes some true there e = cc
and_yes true false there e = refl
and_yes false false there e = refl

-- once each part is read, the order is what was read
pub after_all :
    (nodes : List NodeEntry) (order : List Rank) (parts : List (List ℕ)) (k : ℕ) (whole : Option (List Rank))
    → k ≡ length parts → read_on nodes order (drop k parts) ≡ whole → has_twice order ≡ false
    → then_some (not (length order == 0)) order ≡ whole
after_all nodes order parts k whole all so_far once =
    and_yes (not (length order == 0)) (has_twice order) order once
    ∙ ap as_order (sym (append-nil order))
    ∙ sym (ap (read_on nodes order) (drop_all k parts (omega arith)))
    ∙ so_far

any_push : (test : Rank → Bool) (ranks : List Rank) (rank : Rank) → list_any test ranks ≡ false → test rank ≡ false → list_any test (ranks ++ rank ∷ []) ≡ false
any_push test [] rank e apart = or_from (test rank) false apart refl
any_push test (first ∷ ranks) rank e apart =
    let parts = or_no (test first) (list_any test ranks) e in or_from _ _ parts.0 (any_push test ranks rank parts.1 apart)

-- a node that does not stand yet leaves none twice
pub has_twice-push :
    (order : List Rank) (rank : Rank)
    → has_twice order ≡ false → list_any (λ other. other.0 == rank.0) order ≡ false → has_twice (order ++ rank ∷ []) ≡ false
has_twice-push [] rank once apart = refl
has_twice-push (first ∷ order) rank once apart =
    let once_parts = or_no (list_any (λ other. first.0 == other.0) order) (has_twice order) once
    in let parts = or_no (first.0 == rank.0) (list_any (λ other. other.0 == rank.0) order) apart
    in or_from _ _ (any_push (λ other. first.0 == other.0) order rank once_parts.0 parts.0) (has_twice-push order rank once_parts.1 parts.1)

all_apart : (id : ℕ) (ranks : List Rank) → list_any (λ other. id == other.0) ranks ≡ false → AllByRecursion (λ other. eqb id other ≡ false) (map (λ (r : Rank). r.0) ranks)
all_apart id [] e = tt
all_apart id (rank ∷ ranks) e = let parts = or_no (id == rank.0) _ e in (parts.0, all_apart id ranks parts.1)

distinct : (order : List Rank) → has_twice order ≡ false → IsDistinct eqb (map (λ (r : Rank). r.0) order)
unfolding IsDistinct
distinct [] once = tt
distinct (rank ∷ order) once =
    let parts = or_no (list_any (λ other. rank.0 == other.0) order) (has_twice order) once
    in (all_apart rank.0 order parts.0, distinct order parts.1)

below_by :
    (here : Bool) (n : ℕ) (rank : Rank) (order : List Rank) (q : ℕ)
    → here ≡ (q == rank.0) → rank.0 < n → (here || list_any (eqb q) (map (λ (r : Rank). r.0) order)) ≡ true
    → (list_any (eqb q) (map (λ (r : Rank). r.0) order) ≡ true → q < n) → q < n
below_by true n rank order q is within e later = let same = eqb-true q rank.0 (sym is) in omega arith
below_by false n rank order q is within e later = later e

below : (n : ℕ) (order : List Rank) → All (λ r. r.0 < n) order → (q : ℕ) → list_any (eqb q) (map (λ (r : Rank). r.0) order) ≡ true → q < n
below n [] within q e = absurd (false≢true e)
below n (rank ∷ order) within q e = below_by (q == rank.0) n rank order q refl (All-head (λ r. r.0 < n) rank order within) e (below n order (All-tail (λ r. r.0 < n) rank order within) q)

-- at most as many nodes stand in an order as are configured
pub length-order : (n : ℕ) (order : List Rank) → has_twice order ≡ false → All (λ r. r.0 < n) order → length order ≤ n
length-order n order once within =
    omega (arith, length-le_from_distinct_below (map (λ (r : Rank). r.0) order) n (distinct order once) (below n order within), length-map order (λ (r : Rank). r.0))

-- a word names a configured node
named_place : (o : Option ℕ) (rank : Rank) → option_map rank_of o ≡ Some rank → o ≡ Some rank.0
named_place None rank e = cc
named_place (Some place) rank e = cc

then_place : {X Y : Type 0} (f : X → Option Y) (o : Option X) (y : Y) → option_and_then f o ≡ Some y → (x : X) × (f x ≡ Some y)
then_place f None y e = cc
then_place f (Some x) y e = (x, e)

pub named-within : (nodes : List NodeEntry) (word : List ℕ) (rank : Rank) → named nodes word ≡ Some rank → rank.0 < length nodes
named-within nodes word rank e =
    let id = then_place (with_id nodes) (number_of word) rank e
    in (position-Some (λ (node : NodeEntry). node.id.0 == id.0) nodes rank.0 (record { id = record { 0 = 0 }; votes = 0; fence_delay = 0 }) (named_place _ rank id.1)).0

-- an order of configured nodes
apart : (n : ℕ) (ranks : List Rank) → list_any (λ other. n == other.0) ranks ≡ false → All (λ other. n ≢ other.0) ranks
apart n [] e = λ k d within. absurd (omega arith)
apart n (rank ∷ ranks) e =
    let parts = or_no (n == rank.0) _ e
    in All-cons (λ other. n ≢ other.0) rank ranks (eqb-false n rank.0 parts.0) (apart n ranks parts.1)

pairs : (ranks : List Rank) → has_twice ranks ≡ false → AllPairs (λ first second. first.0 ≢ second.0) ranks
pairs [] once i j d less within = absurd (omega arith)
pairs (rank ∷ ranks) once i zero d less within = absurd (omega arith)
pairs (rank ∷ ranks) once zero (suc j) d less within =
    apart rank.0 ranks (or_no _ (has_twice ranks) once).0 j d (omega arith)
pairs (rank ∷ ranks) once (suc i) (suc j) d less within =
    pairs ranks (or_no (list_any (λ other. rank.0 == other.0) ranks) (has_twice ranks) once).1 i j d (omega arith) (omega arith)

more_named :
    (nodes : List NodeEntry) (first : Option Rank) (others : Option (List Rank))
    → ((rank : Rank) → first ≡ Some rank → rank.0 < length nodes)
    → IfSome others (All (λ r. r.0 < length nodes))
    → IfSome (option_and_then (λ rank. option_map (λ ranks. rank ∷ ranks) others) first) (All (λ r. r.0 < length nodes))
more_named nodes None others within all = tt
more_named nodes (Some rank) None within all = tt
more_named nodes (Some rank) (Some ranks) within all =
    All-cons (λ r. r.0 < length nodes) rank ranks (within rank refl) all

all_named-within : (nodes : List NodeEntry) (words : List (List ℕ)) → IfSome (all_named nodes words) (All (λ r. r.0 < length nodes))
all_named-within nodes [] = λ k d within. absurd (omega arith)
all_named-within nodes (word ∷ words) = more_named nodes (named nodes word) (all_named nodes words) (λ rank e. named-within nodes word rank e) (all_named-within nodes words)

listed_by :
    (nodes : List NodeEntry) (ranks : List Rank) (none twice : Bool)
    → none ≡ (length ranks == 0) → twice ≡ has_twice ranks → All (λ r. r.0 < length nodes) ranks
    → IfSome (cond (not none && not twice) (Some ranks) None) (IsOrder nodes)
listed_by nodes ranks true twice n t within = tt
listed_by nodes ranks false true n t within = tt
listed_by nodes ranks false false n t within =
    let some = eqb-false (length ranks) 0 (sym n)
    in record { some_rank = omega arith; configured = within; none_twice = pairs ranks (sym t) }

listed_from :
    (nodes : List NodeEntry) (o : Option (List Rank)) → IfSome o (All (λ r. r.0 < length nodes)) → IfSome (option_and_then as_order o) (IsOrder nodes)
listed_from nodes None within = tt
listed_from nodes (Some ranks) within = listed_by nodes ranks _ _ refl refl within

-- the node of a place in ascending and in descending id
pub lowest-more : (nodes : List NodeEntry) (k : ℕ) → k < length nodes → take (k + 1) (lowest nodes) ≡ take k (lowest nodes) ++ rank_of k ∷ []
lowest-more nodes k within =
    let next : k + 1 ≡ suc k = omega arith
    in rw next
    (take-suc (lowest nodes) k (rank_of 0) (omega (arith, length-map-range_with_len rank_of 0 (length nodes)))
    ∙ ap (λ rank. take k (lowest nodes) ++ rank ∷ []) (get_or-map-range_with_len rank_of 0 (length nodes) k k (rank_of 0) within (omega arith)))

get_or-highest : (nodes : List NodeEntry) (k : ℕ) (d : Rank) → k < length nodes → get_or (highest nodes) k d ≡ rank_of (length nodes - 1 - k)
get_or-highest nodes k d within =
    let len = length-map-range_with_len rank_of 0 (length nodes)
    in get_or-reverse (lowest nodes) k d (omega (arith, len))
    ∙ get_or-map-range_with_len rank_of 0 (length nodes) (length (lowest nodes) - 1 - k) (length nodes - 1 - k) d (omega (arith, len)) (omega (arith, len))

pub highest-more : (nodes : List NodeEntry) (k : ℕ) → k < length nodes → take (k + 1) (highest nodes) ≡ take k (highest nodes) ++ rank_of (length nodes - 1 - k) ∷ []
highest-more nodes k within =
    let next : k + 1 ≡ suc k = omega arith
    in rw next
    (take-suc (highest nodes) k (rank_of 0) (omega (arith, length-map-range_with_len rank_of 0 (length nodes), length-reverse (lowest nodes)))
    ∙ ap (λ rank. take k (highest nodes) ++ rank ∷ []) (get_or-highest nodes k (rank_of 0) within))

pub lowest-all : (nodes : List NodeEntry) (k : ℕ) → length nodes ≤ k → take k (lowest nodes) ≡ lowest nodes
lowest-all nodes k past = take_all k (lowest nodes) (omega (arith, length-map-range_with_len rank_of 0 (length nodes)))

pub highest-all : (nodes : List NodeEntry) (k : ℕ) → length nodes ≤ k → take k (highest nodes) ≡ highest nodes
highest-all nodes k past =
    take_all k (highest nodes) (omega (arith, length-map-range_with_len rank_of 0 (length nodes), length-reverse (lowest nodes)))

IsOrder-lowest : (nodes : List NodeEntry) → 1 ≤ length nodes → IsOrder nodes (lowest nodes)
IsOrder-lowest nodes some =
    let n = length nodes
    in let len = length-map-range_with_len rank_of 0 n
    in let at : (k : ℕ) (d : Rank) → k < n → (get_or (lowest nodes) k d).0 ≡ k = λ k d within. ap (λ (r : Rank). r.0) (get_or-map-range_with_len rank_of 0 n k k d within (omega arith))
    in record {
      some_rank = omega (arith, len);
      configured = λ k d within. let is = at k d (omega (arith, len)) in omega (arith, len);
      none_twice = λ i j d less within same. let first = at i d (omega (arith, len)) in let second = at j d (omega (arith, len)) in omega (arith);
    }

IsOrder-highest : (nodes : List NodeEntry) → 1 ≤ length nodes → IsOrder nodes (highest nodes)
IsOrder-highest nodes some =
    let n = length nodes
    in let len = length-map-range_with_len rank_of 0 n
    in let long = length-reverse (lowest nodes)
    in let at : (k : ℕ) (d : Rank) → k < n → (get_or (highest nodes) k d).0 ≡ n - 1 - k = λ k d within. ap (λ (r : Rank). r.0) (get_or-highest nodes k d within)
    in record {
      some_rank = omega (arith, len, long);
      configured = λ k d within. let is = at k d (omega (arith, len, long)) in omega (arith, len, long);
      none_twice = λ i j d less within same. let first = at i d (omega (arith, len, long)) in let second = at j d (omega (arith, len, long)) in omega (arith, len, long);
    }

in_form :
    (nodes : List NodeEntry) (low high : Bool) (others : Option (List Rank))
    → 1 ≤ length nodes → IfSome others (IsOrder nodes)
    → IfSome (if low then Some (lowest nodes) else if high then Some (highest nodes) else others) (IsOrder nodes)
in_form nodes true high others some order = IsOrder-lowest nodes some
in_form nodes false true others some order = IsOrder-highest nodes some
in_form nodes false false others some order = order

order_written :
    (nodes : List NodeEntry) (on : Bool) (value : Option (List ℕ))
    → 1 ≤ length nodes → IfSome (if on then option_map_or (order_in nodes) value (Some (lowest nodes)) else None) (IsOrder nodes)
order_written nodes false value some = tt
order_written nodes true None some = IsOrder-lowest nodes some
order_written nodes true (Some text) some =
    in_form nodes (bytes_eq text (codes "lowest")) (bytes_eq text (codes "highest")) (listed nodes text) some
    (listed_from nodes _ (all_named-within nodes (filter is_word (slice_split is_blank text))))

-- the order of preference is one of configured nodes
pub IsOrder-tie_of : (nodes : List NodeEntry) (entries : List Entry) → 1 ≤ length nodes → IfSome (tie_of nodes entries) (IsOrder nodes)
IsOrder-tie_of nodes entries some = order_written nodes (flag keys.AutoTieBreaker entries) (last_value keys.AutoTieBreakerNode entries) some

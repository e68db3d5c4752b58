-- The rank of the node with an id is the place of that id among the ids of all nodes.
use Rattle.std.proofs.Common.{◌≡◌, ◌+◌, ◌-◌, ◌^◌, ◌==◌, ℕ, Bool, List, [], ◌∷◌, Option, Some, None, Result, Ok, Err, map, cond, position, refl, sym, ap, ◌∙◌}
use Rattle.std.specs.Prelude.{IfNone, IfSome}
use Rattle.std.specs.List.{prefix_len}
use Rattle.std.specs.Option.{ok_or}
use Rattle.std.proofs.lemmas.List.{length-map}
use Rattle.qn_base.specs.declared.ids.Rank.{Rank}
use Rattle.qn_model.specs.declared.line_fault.LineFault.{LineFault}
use Rattle.qn_model.specs.declared.line_fault.LineFault.TheVariants.{UnknownNode}
use Rattle.qn_model.specs.declared.nodelist.NodeEntry.{NodeEntry}
use Rattle.qn_model.specs.Lines.{◌>>=◌, known_rank, number_between}
use Rattle.qn_model.specs.Settings.{ids}
use Rattle.qn_sched.specs.EventReading.{rank_of}
use Rattle.qn_sched.specs.MemberList.{rank_number}

prefix_len-map : {X Y : Type 0} (p : Y → Bool) (f : X → Y) (xs : List X) → prefix_len p (map f xs) ≡ prefix_len (λ x. p (f x)) xs
prefix_len-map p f [] = refl
prefix_len-map p f (x ∷ xs) = ap (λ n. cond (p (f x)) (1 + n) 0) (prefix_len-map p f xs)

-- the place of the first element that passes, in a list that another was mapped to
position-map : {X Y : Type 0} (p : Y → Bool) (f : X → Y) (xs : List X) → position p (map f xs) ≡ position (λ x. p (f x)) xs
position-map p f xs = rw (prefix_len-map, length-map) refl

-- a place that was found, or none, as the rank or the fault that a word is told
told : (place : Option ℕ) (rank : Option Rank) → IfSome rank (λ r. place ≡ Some r.0) → IfNone rank (place ≡ None)
    → rank_number (ok_or rank UnknownNode) ≡ ok_or place UnknownNode
told place None some none = ap (λ (p : Option ℕ). ok_or p UnknownNode) (sym none)
told place (Some rank) some none = ap (λ (p : Option ℕ). ok_or p UnknownNode) (sym some)

-- the number of the rank of the node that a word names by this id
pub known_rank-told : (nodes : List NodeEntry) (word : List ℕ) (id : ℕ) (rank : Option Rank) → Ok id ≡ number_between 0 (2 ^ 64 - 1) word
    → IfSome rank (λ r. position (λ node. node.id.0 == id) nodes ≡ Some r.0) → IfNone rank (position (λ node. node.id.0 == id) nodes ≡ None)
    → rank_number (ok_or rank UnknownNode) ≡ known_rank (ids nodes) word
unfolding known_rank
known_rank-told nodes word id rank is some none =
    told (position (λ node. node.id.0 == id) nodes) rank some none
    ∙ ap (λ place. ok_or place UnknownNode) (sym (position-map (λ k. k == id) (λ (node : NodeEntry). node.id.0) nodes))
    ∙ ap (λ (number : Result ℕ LineFault). number >>= (λ k. ok_or (position (λ other. other == k) (ids nodes)) UnknownNode)) is

-- a rank of which the number is known
pub rank_of-number : (ids word : List ℕ) (rank : Result Rank LineFault) → rank_number rank ≡ known_rank ids word → rank ≡ rank_of ids word
unfolding rank_of
rank_of-number ids word rank is = again rank ∙ ap (λ (found : Result ℕ LineFault). found >>= (λ number. Ok (record { 0 = number }))) is
  where
    again : (rank : Result Rank LineFault) → rank ≡ (rank_number rank >>= (λ number. Ok (record { 0 = number })))
    again (Ok rank) = refl
    again (Err fault) = refl

-- Lists that grow by one node.
use Rattle.std.proofs.Common.{◌≡◌, ℕ, ◌+◌, ◌<◌, List, [], ◌∷◌, ◌++◌, Option, length, take, drop, get_or, refl, sym, ap, ◌∙◌, map, append_assoc, take-append-drop}
use Rattle.std.specs.Prelude.{flat_map}
use Rattle.std.specs.Io.KnownBytes.{append_known}
use Rattle.std.proofs.lemmas.Grind.{flat_map-append}
use Rattle.std.proofs.lemmas.List.{at_drop_more}
use Rattle.serde_json.specs.Data.{item}
use Rattle.serde_json.specs.View.{items_of, items_view, view}
use Rattle.serde_json.specs.declared.value.Value.{Value}
use Rattle.qn_io.specs.Outside.{append_known-append}
use Rattle.qn_io.specs.Writes.{AppendsFront}
use Rattle.qn_status.specs.declared.node_state.NodeState.{NodeState}
use Rattle.qn_status.specs.StateData.{state_data, states_items}

items_of_states : (nodes : List NodeState) → items_of (map state_data nodes) ≡ states_items nodes
items_of_states [] = refl
items_of_states (n ∷ nodes) = ap (item (state_data n)) (items_of_states nodes)

-- the data of values that stand for nodes
pub items_states : (values : List Value) (nodes : List NodeState) → map view values ≡ map state_data nodes → items_view values ≡ states_items nodes
items_states values nodes same = ap items_of same ∙ items_of_states nodes

-- the lines before a node, its line, and those after it
lines_at : (f : NodeState → List ℕ) (nodes : List NodeState) (i : ℕ) (d : NodeState) → i < length nodes
    → flat_map f nodes ≡ flat_map f (take i nodes) ++ (f (get_or nodes i d) ++ flat_map f (drop (i + 1) nodes))
lines_at f nodes i d within =
    ap (λ xs. flat_map f xs) (sym (take-append-drop i nodes)) ∙ flat_map-append f (take i nodes) (drop i nodes)
    ∙ ap (λ text. flat_map f (take i nodes) ++ text) (at_drop_more (λ xs. flat_map f xs) nodes i d within)

regroup : (a b c d : List ℕ) → a ++ ((b ++ c) ++ d) ≡ (a ++ b) ++ (c ++ d)
regroup a b c d = simp append_assoc

-- a line of which a prefix was written ends the lines
pub line_cut : (f : NodeState → List ℕ) (nodes : List NodeState) (i : ℕ) (d : NodeState) (shown : List ℕ) {old mid new : Option (List ℕ)} → i < length nodes
    → shown ≡ f (get_or nodes i d) → mid ≡ append_known old (flat_map f (take i nodes)) → AppendsFront mid new shown → AppendsFront old new (flat_map f nodes)
line_cut f nodes i d shown {old} {mid} {new} within shown_is before begun =
    let more = flat_map f (drop (i + 1) nodes) in
    let text = flat_map f (take i nodes) in
    record {
      front = text ++ begun.front;
      rest = begun.rest ++ more;
      parts = lines_at f nodes i d within ∙ ap (λ line. text ++ (line ++ more)) (sym shown_is ∙ begun.parts) ∙ regroup text begun.front begun.rest more;
      adds = begun.adds ∙ ap (λ known. append_known known begun.front) before ∙ sym (append_known-append old text begun.front);
    }

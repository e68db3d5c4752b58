-- The compact text of the data of nodes.
use Rattle.std.proofs.Common.{◌≡◌, ℕ, Bool, true, false, List, [], ◌∷◌, ◌++◌, refl, sym, ap, ap₂, ◌∙◌, map, codes, decimal, append_assoc}
use Rattle.std.specs.List.{join_with_byte}
use Rattle.json.specs.Print.{escape_byte, quoted, token_text}
use Rattle.json.specs.Token.{Token}
use Rattle.serde_json.specs.Written.{compact_text, items_text, has_float}
use Rattle.qn_model.specs.declared.life.Phase.{Phase}
use Rattle.qn_model.specs.declared.life.Phase.TheVariants.{Booting, Up, Leaving, Dying, Gone}
use Rattle.qn_names.specs.PhaseNames.{phase_name}
use Rattle.qn_names.specs.WhyTexts.{why_text}
use Rattle.qn_status.specs.declared.node_state.NodeState.{NodeState}
use Rattle.qn_status.specs.StateData.{state_data, states_items, states_data}
use Rattle.qn_status.specs.StatusJson.{truth, state_object, states_line}
use Rattle.qn_status.proofs.PlainBytes.{plain_why, escape_plain}

quoted_phase : (phase : Phase) → quoted (phase_name phase) ≡ 34 ∷ (phase_name phase ++ 34 ∷ [])
unfolding escape_byte
quoted_phase Booting = refl
quoted_phase Up = refl
quoted_phase Leaving = refl
quoted_phase Dying = refl
quoted_phase Gone = refl

truth_token : (b : Bool) → token_text (Token.boolean b) ≡ truth b
truth_token true = refl
truth_token false = refl

-- a further member of an object, and what stands after it
abbrev further : List ℕ → List ℕ → List ℕ → List ℕ
further key value rest = 44 ∷ (quoted key ++ 58 ∷ (value ++ rest))

-- an object with these nine texts as its values, as it is written
abbrev nested : List ℕ → List ℕ → List ℕ → List ℕ → List ℕ → List ℕ → List ℕ → List ℕ → List ℕ → List ℕ
nested a b c d e f g h i =
    123 ∷ (quoted (codes "expected") ++ 58 ∷ (a ++ further (codes "holds") b (further (codes "id") c (further (codes "phase") d (further (codes "quorate") e
    (further (codes "quorum") f (further (codes "released") g (further (codes "votes") h (further (codes "why") i (125 ∷ []))))))))))

-- a text in quotes, and what stands after it
quoted_more : (text rest : List ℕ) → (34 ∷ (text ++ 34 ∷ [])) ++ rest ≡ 34 ∷ (text ++ 34 ∷ rest)
quoted_more text rest = ap (λ t. 34 ∷ t) (append_assoc text (34 ∷ []) rest)

-- the same object with the phase and the condition in quotes
abbrev quoted_nested : List ℕ → List ℕ → List ℕ → List ℕ → List ℕ → List ℕ → List ℕ → List ℕ → List ℕ → List ℕ
quoted_nested a b c d e f g h i =
    123 ∷ (quoted (codes "expected") ++ 58 ∷ (a ++ further (codes "holds") b (further (codes "id") c (44 ∷ (quoted (codes "phase") ++ 58 ∷ 34 ∷ (d
    ++ 34 ∷ further (codes "quorate") e (further (codes "quorum") f (further (codes "released") g (further (codes "votes") h (44 ∷ (quoted (codes "why")
    ++ 58 ∷ 34 ∷ (i ++ 34 ∷ 125 ∷ []))))))))))))

nested_quoted : (a b c d e f g h i : List ℕ) → nested a b c (34 ∷ (d ++ 34 ∷ [])) e f g h (34 ∷ (i ++ 34 ∷ [])) ≡ quoted_nested a b c d e f g h i
nested_quoted a b c d e f g h i =
    ap (λ x. 123 ∷ (quoted (codes "expected") ++ 58 ∷ (a ++ further (codes "holds") b (further (codes "id") c (further (codes "phase") (34 ∷ (d ++ 34 ∷ [])) (further (codes "quorate") e
    (further (codes "quorum") f (further (codes "released") g (further (codes "votes") h (44 ∷ (quoted (codes "why") ++ 58 ∷ x))))))))))) (quoted_more i (125 ∷ []))
    ∙ ap (λ x. 123 ∷ (quoted (codes "expected") ++ 58 ∷ (a ++ further (codes "holds") b (further (codes "id") c (44 ∷ (quoted (codes "phase") ++ 58 ∷ x))))))
    (quoted_more d (further (codes "quorate") e (further (codes "quorum") f (further (codes "released") g (further (codes "votes") h (44 ∷ (quoted (codes "why")
    ++ 58 ∷ 34 ∷ (i ++ 34 ∷ 125 ∷ []))))))))

nested_text : (a b c d e f g h i : List ℕ) → quoted_nested a b c d e f g h i
    ≡ codes "{\"expected\":" ++ a ++ codes ",\"holds\":" ++ b ++ codes ",\"id\":" ++ c ++ codes ",\"phase\":\"" ++ d ++ codes "\",\"quorate\":" ++ e
    ++ codes ",\"quorum\":" ++ f ++ codes ",\"released\":" ++ g ++ codes ",\"votes\":" ++ h ++ codes ",\"why\":\"" ++ i ++ codes "\"}"
unfolding escape_byte
nested_text a b c d e f g h i = simp append_assoc

quoted_why : (n : NodeState) → quoted (why_text n.why) ≡ 34 ∷ (why_text n.why ++ 34 ∷ [])
quoted_why n = ap (λ text. 34 ∷ (text ++ 34 ∷ [])) (escape_plain (why_text n.why) (plain_why n.why))

-- the object of a node
object_text : (n : NodeState) → compact_text (state_data n) ≡ state_object n
unfolding state_object
object_text n =
    let a = decimal n.answer.expected in
    let c = decimal n.id.0 in
    let f = decimal n.answer.quorum in
    let h = decimal n.answer.votes in
    let e = token_text (Token.boolean n.answer.quorate) in
    let g = token_text (Token.boolean n.answer.released) in
    ap (λ x. nested a x c (quoted (phase_name n.phase)) e f g h (quoted (why_text n.why))) (truth_token n.holds)
    ∙ ap (λ x. nested a (truth n.holds) c (quoted (phase_name n.phase)) x f g h (quoted (why_text n.why))) (truth_token n.answer.quorate)
    ∙ ap (λ x. nested a (truth n.holds) c (quoted (phase_name n.phase)) (truth n.answer.quorate) f x h (quoted (why_text n.why))) (truth_token n.answer.released)
    ∙ ap (λ x. nested a (truth n.holds) c x (truth n.answer.quorate) f (truth n.answer.released) h (quoted (why_text n.why))) (quoted_phase n.phase)
    ∙ ap (λ x. nested a (truth n.holds) c (34 ∷ (phase_name n.phase ++ 34 ∷ [])) (truth n.answer.quorate) f (truth n.answer.released) h x) (quoted_why n)
    ∙ nested_quoted a (truth n.holds) c (phase_name n.phase) (truth n.answer.quorate) f (truth n.answer.released) h (why_text n.why)
    ∙ nested_text a (truth n.holds) c (phase_name n.phase) (truth n.answer.quorate) f (truth n.answer.released) h (why_text n.why)

-- the objects, each after a comma
later_text : (n : NodeState) (nodes : List NodeState) → items_text true (states_items (n ∷ nodes)) ≡ 44 ∷ (join_with_byte 44 (map state_object (n ∷ nodes)) ++ 93 ∷ [])
later_text n [] = ap (λ text. 44 ∷ (text ++ 93 ∷ [])) (object_text n)
later_text n (m ∷ nodes) =
    ap₂ (λ a b. 44 ∷ (a ++ b)) (object_text n) (later_text m nodes)
    ∙ ap (λ text. 44 ∷ text) (sym (append_assoc (state_object n) (44 ∷ join_with_byte 44 (map state_object (m ∷ nodes))) (93 ∷ [])))

array_text : (nodes : List NodeState) → items_text false (states_items nodes) ≡ join_with_byte 44 (map state_object nodes) ++ 93 ∷ []
array_text [] = refl
array_text (n ∷ []) = ap (λ text. text ++ 93 ∷ []) (object_text n)
array_text (n ∷ m ∷ nodes) =
    ap₂ (λ a b. a ++ b) (object_text n) (later_text m nodes)
    ∙ sym (append_assoc (state_object n) (44 ∷ join_with_byte 44 (map state_object (m ∷ nodes))) (93 ∷ []))

-- the compact text of the array, and an end of line
pub line_text : (nodes : List NodeState) → compact_text (states_data nodes) ++ 10 ∷ [] ≡ states_line nodes
line_text nodes =
    ap (λ text. 91 ∷ (text ++ 10 ∷ [])) (array_text nodes) ∙ ap (λ text. 91 ∷ text) (append_assoc (join_with_byte 44 (map state_object nodes)) (93 ∷ []) (10 ∷ []))

-- no object has a float
pub no_floats : (nodes : List NodeState) → has_float (states_data nodes) ≡ false
no_floats [] = refl
no_floats (n ∷ nodes) = no_floats nodes

-- A list of JSON that is read item by item.
use Rattle.std.proofs.Common.{◌≡◌, ◌≤◌, ◌<◌, ◌+◌, ℕ, List, [], ◌∷◌, ◌++◌, Option, Some, None, option_and_then, option_map, length, drop, get_or, refl, sym, ap, ◌∙◌, arith, append_assoc, append-nil, nat_le, false, if◌then◌else◌}
use Rattle.std.proofs.lemmas.Bool.{le-leb}
use Rattle.std.proofs.lemmas.Bool.Decides.{nat_tests}
use Rattle.std.proofs.lemmas.List.{at_drop_more, length-append}
use Rattle.json.specs.Json.{Json}
use Rattle.json.specs.Value.{items_view, value_view}
use Rattle.json.specs.declared.value.Value.{Value}
use Rattle.qn_shown.specs.Reading.{◌<*>◌, all_in, few}

-- what was read so far, and what is left
abbrev pub rest_in : {A X : Type 0} → (Json → Option X) → List X → List (Value A) → Option (List X)
rest_in reads found left = option_map (λ rest. found ++ rest) (all_in reads (items_view left))

pub first : {X : Type 0} (all : Option (List X)) → all ≡ option_map (λ rest. [] ++ rest) all
first None = refl
first (Some xs) = refl

one_more : {X : Type 0} (found : List X) (x : X) (rest : Option (List X))
    → option_map (λ later. found ++ later) (Some (λ a later. a ∷ later) <*> Some x <*> rest) ≡ option_map (λ later. (found ++ x ∷ []) ++ later) rest
one_more found x None = refl
one_more found x (Some later) = ap (λ xs. Some xs) (sym (append_assoc found (x ∷ []) later))

pub more : {A X : Type 0} (reads : Json → Option X) (found : List X) (items : List (Value A)) (i : ℕ) (d : Value A) (x : X) → i < length items
    → reads (value_view (get_or items i d)) ≡ Some x → rest_in reads found (drop i items) ≡ rest_in reads (found ++ x ∷ []) (drop (i + 1) items)
more reads found items i d x within is =
    at_drop_more (λ left. rest_in reads found left) items i d within
    ∙ ap (λ one. option_map (λ later. found ++ later) (Some (λ a later. a ∷ later) <*> one <*> all_in reads (items_view (drop (i + 1) items)))) is
    ∙ one_more found x (all_in reads (items_view (drop (i + 1) items)))

pub wrong : {A X : Type 0} (reads : Json → Option X) (found : List X) (items : List (Value A)) (i : ℕ) (d : Value A) → i < length items
    → reads (value_view (get_or items i d)) ≡ None → rest_in reads found (drop i items) ≡ None
wrong reads found items i d within is =
    at_drop_more (λ left. rest_in reads found left) items i d within
    ∙ ap (λ one. option_map (λ later. found ++ later) (Some (λ a later. a ∷ later) <*> one <*> all_in reads (items_view (drop (i + 1) items)))) is

over : {X : Type 0} (found : List X) (x : X) (rest : Option (List X)) → 32 ≤ length found
    → option_and_then few (option_map (λ later. (found ++ x ∷ []) ++ later) rest) ≡ None
over found x None full = refl
over found x (Some later) full =
    let one = length-append found (x ∷ []) in
    let all = length-append (found ++ x ∷ []) later in
    let long : nat_le (length ((found ++ x ∷ []) ++ later)) 32 ≡ false = grind (arith, nat_tests) in
    ap (λ test. if test then Some ((found ++ x ∷ []) ++ later) else None) long

pub too_many : {A X : Type 0} (reads : Json → Option X) (found : List X) (items : List (Value A)) (i : ℕ) (d : Value A) (x : X) → i < length items
    → reads (value_view (get_or items i d)) ≡ Some x → 32 ≤ length found → option_and_then few (rest_in reads found (drop i items)) ≡ None
too_many reads found items i d x within is full =
    ap (option_and_then few) (more reads found items i d x within is) ∙ over found x (all_in reads (items_view (drop (i + 1) items))) full

pub ended : {X : Type 0} (found : List X) → length found ≤ 32 → option_and_then few (option_map (λ rest. found ++ rest) (Some [])) ≡ Some found
ended found short =
    ap (λ all. few all) (append-nil found) ∙ ap (λ test. if test then Some found else None) (le-leb (length found) 32 short)

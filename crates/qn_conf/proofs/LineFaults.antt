-- The first line at fault, and the items of the lines without one.
use Rattle.std.proofs.Common.{◌≡◌, ℕ, suc, zero, ◌+◌, ◌<◌, ◌≤◌, List, [], ◌∷◌, ◌++◌, length, take, drop, get_or, Option, Some, None, refl, sym, ap, subst, ◌∙◌, ⊎_elim, arith, append_assoc, length-append, ◌⊎◌, inl, inr, add-one}
use Rattle.std.specs.Prelude.{All}
use Rattle.std.specs.Option.{option_map_or}
use Rattle.std.proofs.lemmas.Bool.{cases_lt, cases_order}
use Rattle.std.proofs.lemmas.List.{take_more, take_all, take-append-drop, append-nil}
use Rattle.std.proofs.lemmas.List.Elements.{All-from_get_or, All-get_or}
use Rattle.std.proofs.Math.Seq.{take-append_seam, get_or-append_seam}
use Rattle.qn_conf.specs.declared.faults.ConfFault.{ConfFault}
use Rattle.qn_conf.specs.declared.tree.Item.{Item}
use Rattle.qn_conf.specs.Line.{item_in, meaning_of, IsKnown}
use Rattle.qn_conf.specs.Nesting.{IsNested}
use Rattle.qn_conf.specs.Conf.{items_of, fault_at, fault_after, first_fault, IsFirstOfLines}
use Rattle.qn_conf.proofs.NestingLemmas.{step, step_back, IsNested-front}

pub items_of-append : (a b : List (List ℕ)) → items_of (a ++ b) ≡ items_of a ++ items_of b
items_of-append [] b = refl
items_of-append (line ∷ a) b =
    ap (λ rest. item_in (meaning_of line) ++ rest) (items_of-append a b)
    ∙ sym (append_assoc (item_in (meaning_of line)) (items_of a) (items_of b))

pub items_of-push : (a : List (List ℕ)) (line : List ℕ) → items_of (a ++ line ∷ []) ≡ items_of a ++ item_in (meaning_of line)
items_of-push a line = items_of-append a (line ∷ []) ∙ ap (λ rest. items_of a ++ rest) (append-nil (item_in (meaning_of line)))

-- the line after some lines is the one at their number
pub fault_at-here :
    (before : List (List ℕ)) (line : List ℕ) (after : List (List ℕ))
    → fault_at (before ++ line ∷ after) (length before) ≡ fault_after before line
fault_at-here before line after =
    let front : take (length before) (before ++ line ∷ after) ≡ before = take-append_seam before (line ∷ after)
    in let here : get_or (before ++ line ∷ after) (length before) [] ≡ line = get_or-append_seam before line after []
    in rw (front, here) refl

regroup : (before : List (List ℕ)) (line : List ℕ) (after : List (List ℕ)) → (before ++ line ∷ []) ++ after ≡ before ++ line ∷ after
regroup before line after = append_assoc before (line ∷ []) after

length_push : (before : List (List ℕ)) (line : List ℕ) → length (before ++ line ∷ []) ≡ length before + 1
length_push before line = length-append before (line ∷ [])

none_split : (first next : Option ConfFault) → option_map_or Some first next ≡ None → (first ≡ None) × (next ≡ None)
none_split None next e = (refl, e)
none_split (Some fault) next e = cc

some_split :
    (first next : Option ConfFault) (fault : ConfFault)
    → option_map_or Some first next ≡ Some fault
    → (first ≡ Some fault) ⊎ ((first ≡ None) × (next ≡ Some fault))
some_split None next fault e = inr (refl, e)
some_split (Some own) next fault e = inl e

-- where no fault is found, no line has one
pub first_fault-none :
    (before after : List (List ℕ))
    → first_fault before after ≡ None
    → (k : ℕ) → length before ≤ k → k < length (before ++ after) → fault_at (before ++ after) k ≡ None
first_fault-none before [] e k low high =
    let short : k < length before = simp append-nil at high in absurd (omega arith)
first_fault-none before (line ∷ after) e k low high =
    let parts = none_split (fault_after before line) _ e
    in let whole : (before ++ line ∷ []) ++ after ≡ before ++ line ∷ after = regroup before line after
    in let len : length (before ++ line ∷ []) ≡ length before + 1 = length_push before line
    in ⊎_elim
    (λ (more : length before < k).
    rw whole at (first_fault-none (before ++ line ∷ []) after parts.1 k (omega arith) (rw whole high)))
    (λ (le : k ≤ length before).
    let same : k ≡ length before = omega arith in rw same (fault_at-here before line after ∙ parts.0))
    (cases_lt (length before) k)

-- the first fault from a place on
pub record IsFirstFrom (start : ℕ) (lines : List (List ℕ)) (fault : ConfFault) : Type 0 where
  pub place : ℕ
  pub from : start ≤ place
  pub within : place < length lines
  pub here : fault_at lines place ≡ Some fault
  pub before : (k : ℕ) → start ≤ k → k < place → fault_at lines k ≡ None

before_too :
    (before : List (List ℕ)) (line : List ℕ) (after : List (List ℕ)) (place : ℕ)
    → fault_after before line ≡ None
    → ((k : ℕ) → length before < k → k < place → fault_at (before ++ line ∷ after) k ≡ None)
    → (k : ℕ) → length before ≤ k → k < place → fault_at (before ++ line ∷ after) k ≡ None
before_too before line after place here later k low high =
    ⊎_elim
    (λ (more : length before < k). later k more high)
    (λ (le : k ≤ length before).
    let same : k ≡ length before = omega arith in rw same (fault_at-here before line after ∙ here))
    (cases_lt (length before) k)

-- a fault that is found is that of the first line with one
pub first_fault-some :
    (before after : List (List ℕ)) (fault : ConfFault)
    → first_fault before after ≡ Some fault
    → IsFirstFrom (length before) (before ++ after) fault
first_fault-some before [] fault e = cc
first_fault-some before (line ∷ after) fault e =
    let whole : (before ++ line ∷ []) ++ after ≡ before ++ line ∷ after = regroup before line after
    in let len : length (before ++ line ∷ []) ≡ length before + 1 = length_push before line
    in ⊎_elim
    (λ (own : fault_after before line ≡ Some fault).
    record {
      place = length before;
      from = omega arith;
      within = simp length-append (omega arith);
      here = fault_at-here before line after ∙ own;
      before = λ k low high. absurd (omega arith);
    })
    (λ (later : (fault_after before line ≡ None) × (first_fault (before ++ line ∷ []) after ≡ Some fault)).
    let rest = rw whole at (first_fault-some (before ++ line ∷ []) after fault later.1)
    in record {
      place = rest.place;
      from = omega arith;
      within = rest.within;
      here = rest.here;
      before = λ k low high. before_too before line after rest.place later.0 (λ j above below. rest.before j (omega arith) below) k low high;
    })
    (some_split (fault_after before line) _ fault e)

-- the first fault of all lines
pub first_of_lines :
    (lines : List (List ℕ)) (fault : ConfFault) → first_fault [] lines ≡ Some fault → IsFirstOfLines lines fault
first_of_lines lines fault e =
    let found = first_fault-some [] lines fault e
    in record {
      place = found.place;
      within = found.within;
      here = found.here;
      before = λ k below. found.before k (omega arith) below;
    }

pub no_line :
    (lines : List (List ℕ)) → first_fault [] lines ≡ None → (k : ℕ) → k < length lines → fault_at lines k ≡ None
no_line lines e k within = first_fault-none [] lines e k (omega arith) within

-- a search has an answer
pub either : (o : Option ConfFault) → (o ≡ None) ⊎ ((fault : ConfFault) × (o ≡ Some fault))
either None = inl refl
either (Some fault) = inr (fault, refl)

-- where no line has a fault, none is found
pub none_found :
    (lines : List (List ℕ)) → ((k : ℕ) → k < length lines → fault_at lines k ≡ None) → first_fault [] lines ≡ None
none_found lines clear =
    ⊎_elim
    (λ (none : first_fault [] lines ≡ None). none)
    (λ (some : (fault : ConfFault) × (first_fault [] lines ≡ Some fault)).
    let found = first_of_lines lines some.0 some.1
    in let absent = clear found.place found.within
    in let here = found.here
    in cc)
    (either (first_fault [] lines))

same_first :
    (lines : List (List ℕ)) (a b : ConfFault) → IsFirstOfLines lines a → IsFirstOfLines lines b → Some a ≡ Some b
same_first lines a b one other =
    ⊎_elim
    (λ (same : one.place ≡ other.place).
    let here = one.here in let there = other.here in let e = ap (fault_at lines) same in cc)
    (λ (apart : (one.place < other.place) ⊎ (other.place < one.place)).
    ⊎_elim
    (λ (less : one.place < other.place).
    let absent = other.before one.place less in let here = one.here in cc)
    (λ (more : other.place < one.place).
    let absent = one.before other.place more in let here = other.here in cc)
    apart)
    (cases_order one.place other.place)

-- the first fault is found
pub first_found :
    (lines : List (List ℕ)) (fault : ConfFault) → IsFirstOfLines lines fault → first_fault [] lines ≡ Some fault
first_found lines fault first =
    ⊎_elim
    (λ (none : first_fault [] lines ≡ None).
    let absent = no_line lines none first.place first.within in let here = first.here in cc)
    (λ (some : (own : ConfFault) × (first_fault [] lines ≡ Some own)).
    some.1 ∙ same_first lines some.0 fault (first_of_lines lines some.0 some.1) first)
    (either (first_fault [] lines))

-- the lines before a place, and the line there
items_more :
    (lines : List (List ℕ)) (k : ℕ)
    → k < length lines
    → items_of (take (k + 1) lines) ≡ items_of (take k lines) ++ item_in (meaning_of (get_or lines k []))
items_more lines k within = ap items_of (take_more lines k [] within) ∙ items_of-push (take k lines) _

nested_none : IsNested []
nested_none n = let empty : take {A = Item} n [] ≡ [] = take_all n [] (omega arith) in rw empty (omega arith, omega arith)

-- where no line has a fault, each is of a known kind and the sections are nested
pub nested_upto :
    (lines : List (List ℕ))
    → ((k : ℕ) → k < length lines → fault_at lines k ≡ None)
    → (k : ℕ) → k ≤ length lines → IsNested (items_of (take k lines))
nested_upto lines clear zero low = nested_none
nested_upto lines clear (suc k) low =
    let within : k < length lines = omega arith
    in let more : items_of (take (k + 1) lines) ≡ items_of (take k lines) ++ item_in (meaning_of (get_or lines k [])) = items_more lines k within
    in let kept = step (items_of (take k lines)) _ (meaning_of (get_or lines k [])) (nested_upto lines clear k (omega arith)) (clear k within)
    in let nested : IsNested (items_of (take (k + 1) lines)) = rw more kept.1
    in rw (← add-one k) nested

pub known_all :
    (lines : List (List ℕ))
    → ((k : ℕ) → k < length lines → fault_at lines k ≡ None)
    → All (λ line. IsKnown (meaning_of line)) lines
known_all lines clear =
    All-from_get_or (λ line. IsKnown (meaning_of line)) lines []
    (λ k within.
    (step (items_of (take k lines)) _ (meaning_of (get_or lines k [])) (nested_upto lines clear k (omega arith)) (clear k within)).0)

-- and the other way round
pub clear_all :
    (lines : List (List ℕ))
    → All (λ line. IsKnown (meaning_of line)) lines
    → IsNested (items_of lines)
    → (k : ℕ) → k < length lines → fault_at lines k ≡ None
clear_all lines known nested k within =
    let P : List Item → Type 0 = IsNested
    in let m = meaning_of (get_or lines k [])
    in let split : items_of lines ≡ items_of (take (k + 1) lines) ++ items_of (drop (k + 1) lines) = sym (ap items_of (take-append-drop (k + 1) lines)) ∙ items_of-append (take (k + 1) lines) (drop (k + 1) lines)
    in let upto = IsNested-front (items_of (take (k + 1) lines)) _ (subst P split nested)
    in let pushed = subst P (items_more lines k within) upto
    in let front = IsNested-front (items_of (take k lines)) (item_in m) pushed
    in step_back (items_of (take k lines)) _ m front (All-get_or (λ line. IsKnown (meaning_of line)) lines k [] within known) pushed

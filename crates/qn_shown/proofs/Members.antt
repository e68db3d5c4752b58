-- The keys of an object that has some left out: what is found in it, its numbers and its depth.
use Rattle.std.proofs.Common.{◌≡◌, ◌≤◌, ℕ, Bool, true, false, cond, max, List, [], ◌∷◌, Option, Some, None, refl, sym, ap, ◌∙◌, arith}
use Rattle.std.specs.Str.{bytes_eq}
use Rattle.json.specs.Json.{Json, Members, no_members, member, Items, no_items, item}
use Rattle.json.specs.Find.{get_member, later_or}
use Rattle.json.specs.Tree.{HasNumbers, ItemsHaveNumbers, MembersHaveNumbers, depth, items_depth, members_depth}
use Rattle.qn_shown.specs.Entries.{Entry, entries_members, put}
use Rattle.qn_shown.specs.Fits.{AllOf}
use Rattle.qn_shown.specs.Spelling.{items_of}

-- the last value of a key
abbrev pub last_of : List ℕ → List Entry → Option Json
last_of key [] = None
last_of key (e ∷ rest) = later_or (last_of key rest) (cond (bytes_eq e.0 key) e.1 None)

later_none : (found : Option Json) → later_or found None ≡ found
later_none None = refl
later_none (Some j) = refl

cond_same : {A : Type 0} (test : Bool) (a : A) → cond test a a ≡ a
cond_same true a = refl
cond_same false a = refl

put_found : (key k : List ℕ) (value : Option Json) (rest : Members)
    → get_member key (put k value rest) ≡ later_or (get_member key rest) (cond (bytes_eq k key) value None)
put_found key k None rest =
    sym (ap (λ value. later_or (get_member key rest) value) (cond_same (bytes_eq k key) None) ∙ later_none (get_member key rest))
put_found key k (Some j) rest = refl

pub found : (key : List ℕ) (entries : List Entry) → get_member key (entries_members entries) ≡ last_of key entries
found key [] = refl
found key (e ∷ rest) =
    put_found key e.0 e.1 (entries_members rest) ∙ ap (λ later. later_or later (cond (bytes_eq e.0 key) e.1 None)) (found key rest)

abbrev pub ValueHasNumbers : Option Json → Type 0
ValueHasNumbers None = Unit {0}
ValueHasNumbers (Some j) = HasNumbers j

abbrev pub HaveNumbers : List Entry → Type 0
HaveNumbers [] = Unit {0}
HaveNumbers (e ∷ rest) = ValueHasNumbers e.1 × HaveNumbers rest

put_number : (k : List ℕ) (value : Option Json) (rest : Members) → ValueHasNumbers value → MembersHaveNumbers rest → MembersHaveNumbers (put k value rest)
put_number k None rest one others = others
put_number k (Some j) rest one others = (one, others)

pub numbers : (entries : List Entry) → HaveNumbers entries → MembersHaveNumbers (entries_members entries)
numbers [] all = tt
numbers (e ∷ rest) all = put_number e.0 e.1 (entries_members rest) all.0 (numbers rest all.1)

pub items_numbers : {A : Type 0} {P : A → Type 0} (spells : A → Json) → ((a : A) → P a → HasNumbers (spells a)) → (xs : List A) → AllOf P xs
    → ItemsHaveNumbers (items_of spells xs)
items_numbers spells one [] all = tt
items_numbers spells one (a ∷ rest) all = (one a all.0, items_numbers spells one rest all.1)

-- no value nests deeper
abbrev pub ValueIsFlat : ℕ → Option Json → Type 0
ValueIsFlat most None = Unit {0}
ValueIsFlat most (Some j) = depth j ≤ most

abbrev pub AreFlat : ℕ → List Entry → Type 0
AreFlat most [] = Unit {0}
AreFlat most (e ∷ rest) = ValueIsFlat most e.1 × AreFlat most rest

put_flat : (most : ℕ) (k : List ℕ) (value : Option Json) (rest : Members) → ValueIsFlat most value → members_depth rest ≤ most → members_depth (put k value rest) ≤ most
put_flat most k None rest one others = others
put_flat most k (Some j) rest one others = omega (arith, one, others)

pub flat : (most : ℕ) (entries : List Entry) → AreFlat most entries → members_depth (entries_members entries) ≤ most
flat most [] all = omega arith
flat most (e ∷ rest) all = put_flat most e.0 e.1 (entries_members rest) all.0 (flat most rest all.1)

pub items_flat : {A : Type 0} (most : ℕ) (spells : A → Json) → ((a : A) → depth (spells a) ≤ most) → (xs : List A) → items_depth (items_of spells xs) ≤ most
items_flat most spells one [] = omega arith
items_flat most spells one (a ∷ rest) = omega (arith, one a, items_flat most spells one rest)

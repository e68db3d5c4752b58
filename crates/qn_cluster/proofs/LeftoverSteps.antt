-- The leftovers of all ranks and images in one list.
use Rattle.std.proofs.Common.{◌≡◌, ℕ, suc, zero, ◌-◌, ◌≤◌, Bool, true, false, List, [], ◌∷◌, ◌++◌, Some, None, refl, not, ◌&&◌, if◌then◌else◌, sym, ◌∙◌, ap, subst, arith}
use Rattle.std.specs.Prelude.{Option, is_some, ◌==◌, slice_get}
use Rattle.std.specs.List.{remove}
use Rattle.std.specs.Option.{option_map}
use Rattle.std.proofs.lemmas.Bool.Decides.{nat_tests}
use Rattle.qn_cluster.specs.declared.leftovers.Leftover.{Leftover}
use Rattle.qn_cluster.specs.Places.{others_of, place_in}
use Rattle.qn_cluster.specs.DiskStanding.{is_of, left_where}
use Rattle.qn_model.specs.declared.outputs.DiskOp.{DiskOp}
use Rattle.qn_model.specs.World.{numbered, without}

-- no leftover passes both tests
abbrev pub Apart : (Leftover → Bool) → (Leftover → Bool) → Type 0
Apart mine other = (l : Leftover) → mine l ≡ true → other l ≡ false

-- the leftovers of a rank that was dropped, and of another
own_dropped : (rank image : ℕ) (first : Leftover) (left : List Leftover) (b : Bool) → (first.of.0 == rank) ≡ b → left_where (is_of rank image) (others_of rank left) ≡ []
    → left_where (is_of rank image) (if not b then first ∷ others_of rank left else others_of rank left) ≡ []
own_dropped rank image first left true e none = none
own_dropped rank image first left false e none =
    ap (λ b. if (b && first.image == image) then first.op ∷ left_where (is_of rank image) (others_of rank left) else left_where (is_of rank image) (others_of rank left)) e ∙ none

pub left_of-dropped : (rank image : ℕ) (left : List Leftover) → left_where (is_of rank image) (others_of rank left) ≡ []
left_of-dropped rank image [] = refl
left_of-dropped rank image (first ∷ left) = own_dropped rank image first left (first.of.0 == rank) refl (left_of-dropped rank image left)

other_kept : (rank other image : ℕ) (first : Leftover) (left : List Leftover) (b : Bool) → (rank == other) ≡ false → (first.of.0 == rank) ≡ b
    → left_where (is_of other image) (others_of rank left) ≡ left_where (is_of other image) left
    → left_where (is_of other image) (if not b then first ∷ others_of rank left else others_of rank left) ≡ left_where (is_of other image) (first ∷ left)
other_kept rank other image first left true apart e same =
    let not_other : (first.of.0 == other) ≡ false = grind (arith, nat_tests) in
    same ∙ sym (ap (λ b. if (b && first.image == image) then first.op ∷ left_where (is_of other image) left else left_where (is_of other image) left) not_other)
other_kept rank other image first left false apart e same =
    ap (λ more. if is_of other image first then first.op ∷ more else more) same

pub left_of-others : (rank other image : ℕ) (left : List Leftover) → (rank == other) ≡ false
    → left_where (is_of other image) (others_of rank left) ≡ left_where (is_of other image) left
left_of-others rank other image [] apart = refl
left_of-others rank other image (first ∷ left) apart =
    other_kept rank other image first left (first.of.0 == rank) apart refl (left_of-others rank other image left apart)

-- leftovers that are added
append_by : (first : Leftover) (both front back : List DiskOp) (b : Bool) → both ≡ front ++ back
    → (if b then first.op ∷ both else both) ≡ (if b then first.op ∷ front else front) ++ back
append_by first both front back true e = ap (λ more. first.op ∷ more) e
append_by first both front back false e = e

pub left_where-append : (mine : Leftover → Bool) (front back : List Leftover) → left_where mine (front ++ back) ≡ left_where mine front ++ left_where mine back
left_where-append mine [] back = refl
left_where-append mine (first ∷ front) back =
    append_by first (left_where mine (front ++ back)) (left_where mine front) (left_where mine back) (mine first) (left_where-append mine front back)

-- the place of a leftover: what stands there, and what is left without it
pub record FoundLeft (mine : Leftover → Bool) (number : ℕ) (left : List Leftover) (place : ℕ) : Type 0 where
  pub item : Leftover
  pub there : slice_get left place ≡ Some item
  pub op_is : numbered (left_where mine left) number ≡ Some item.op
  pub own : left_where mine (remove left place) ≡ without (left_where mine left) number
  pub apart : (other : Leftover → Bool) → Apart mine other → left_where other (remove left place) ≡ left_where other left

-- a place of the rest, as one of the whole
map_suc_some : (o : Option ℕ) (place : ℕ) → option_map suc o ≡ Some place → (before : ℕ) × (o ≡ Some before) × (suc before ≡ place)
map_suc_some None place e = absurd (cc)
map_suc_some (Some before) place e = (before, refl, cc)

map_suc_none : (o : Option ℕ) → option_map suc o ≡ None → o ≡ None
map_suc_none None e = refl
map_suc_none (Some before) e = absurd (cc)

numbered_later : (op : DiskOp) (ops : List DiskOp) (number : ℕ) → 2 ≤ number → numbered (op ∷ ops) number ≡ numbered ops (number - 1)
numbered_later op ops zero some = absurd (omega arith)
numbered_later op ops (suc zero) some = absurd (omega arith)
numbered_later op ops (suc (suc k)) some = let e : suc (suc k) - 1 ≡ suc k = omega arith in ap (numbered ops) (sym e)

without_later : (op : DiskOp) (ops : List DiskOp) (number : ℕ) → 2 ≤ number → without (op ∷ ops) number ≡ op ∷ without ops (number - 1)
without_later op ops zero some = absurd (omega arith)
without_later op ops (suc zero) some = absurd (omega arith)
without_later op ops (suc (suc k)) some = let e : suc (suc k) - 1 ≡ suc k = omega arith in ap (λ n. op ∷ without ops n) (sym e)

-- one item before the others
left_where-first : (mine : Leftover → Bool) (first : Leftover) (left : List Leftover) (b : Bool) → mine first ≡ b
    → left_where mine (first ∷ left) ≡ (if b then first.op ∷ left_where mine left else left_where mine left)
left_where-first mine first left b e = ap (λ b. if b then first.op ∷ left_where mine left else left_where mine left) e

more_in_front : (first : Leftover) (other : Leftover → Bool) (front back : List Leftover) → left_where other front ≡ left_where other back
    → left_where other (first ∷ front) ≡ left_where other (first ∷ back)
more_in_front first other front back e = ap (λ ops. if other first then first.op ∷ ops else ops) e

found_first : (mine : Leftover → Bool) (first : Leftover) (left : List Leftover) → mine first ≡ true → FoundLeft mine 1 (first ∷ left) 0
found_first mine first left own =
    let split = left_where-first mine first left true own in
    record {
      item = first;
      there = refl;
      op_is = ap (λ ops. numbered ops 1) split;
      own = sym (ap (λ ops. without ops 1) split);
      apart = λ other apart. sym (left_where-first other first left false (apart first own));
    }

found_own : (mine : Leftover → Bool) (number : ℕ) (first : Leftover) (left : List Leftover) (place : ℕ) → 2 ≤ number → mine first ≡ true
    → FoundLeft mine (number - 1) left place → FoundLeft mine number (first ∷ left) (suc place)
found_own mine number first left place some own found =
    let split = left_where-first mine first left true own in
    record {
      item = found.item;
      there = found.there;
      op_is = ap (λ ops. numbered ops number) split ∙ (numbered_later first.op (left_where mine left) number some ∙ found.op_is);
      own =
          left_where-first mine first (remove left place) true own
          ∙ (ap (λ ops. first.op ∷ ops) found.own
          ∙ (sym (without_later first.op (left_where mine left) number some) ∙ sym (ap (λ ops. without ops number) split)));
      apart = λ other apart. more_in_front first other (remove left place) left (found.apart other apart);
    }

found_other : (mine : Leftover → Bool) (number : ℕ) (first : Leftover) (left : List Leftover) (place : ℕ) → mine first ≡ false
    → FoundLeft mine number left place → FoundLeft mine number (first ∷ left) (suc place)
found_other mine number first left place foreign found =
    let split = left_where-first mine first left false foreign in
    record {
      item = found.item;
      there = found.there;
      op_is = ap (λ ops. numbered ops number) split ∙ found.op_is;
      own = left_where-first mine first (remove left place) false foreign ∙ (found.own ∙ sym (ap (λ ops. without ops number) split));
      apart = λ other apart. more_in_front first other (remove left place) left (found.apart other apart);
    }

found_by : (mine : Leftover → Bool) (number : ℕ) (first : Leftover) (left : List Leftover) (place : ℕ) (b c : Bool) → 1 ≤ number → mine first ≡ b → (number == 1) ≡ c
    → (if b then (if c then Some 0 else option_map suc (place_in mine (number - 1) left)) else option_map suc (place_in mine number left)) ≡ Some place
    → ((before : ℕ) → 1 ≤ number - 1 → place_in mine (number - 1) left ≡ Some before → FoundLeft mine (number - 1) left before)
    → ((before : ℕ) → place_in mine number left ≡ Some before → FoundLeft mine number left before)
    → FoundLeft mine number (first ∷ left) place
found_by mine number first left place true true some own one e earlier here =
    let first_place : 0 ≡ place = cc in
    let is_one : 1 ≡ number = grind (arith, nat_tests) in
    subst (λ p. FoundLeft mine number (first ∷ left) p) first_place (subst (λ n. FoundLeft mine n (first ∷ left) 0) is_one (found_first mine first left own))
found_by mine number first left place true false some own one e earlier here =
    let before = map_suc_some (place_in mine (number - 1) left) place e in
    let many : 2 ≤ number = grind (arith, nat_tests) in
    subst (λ p. FoundLeft mine number (first ∷ left) p) before.2 (found_own mine number first left before.0 many own (earlier before.0 (omega arith) before.1))
found_by mine number first left place false c some own one e earlier here =
    let before = map_suc_some (place_in mine number left) place e in
    subst (λ p. FoundLeft mine number (first ∷ left) p) before.2 (found_other mine number first left before.0 own (here before.0 before.1))

pub found_left : (mine : Leftover → Bool) (number : ℕ) (left : List Leftover) (place : ℕ) → 1 ≤ number → place_in mine number left ≡ Some place → FoundLeft mine number left place
found_left mine number [] place some e = absurd (cc)
found_left mine number (first ∷ left) place some e =
    found_by mine number first left place (mine first) (number == 1) some refl refl e
    (λ before some e. found_left mine (number - 1) left before some e) (λ before e. found_left mine number left before some e)

none_by : (mine : Leftover → Bool) (number : ℕ) (first : Leftover) (left : List Leftover) (b c : Bool) → 1 ≤ number → mine first ≡ b → (number == 1) ≡ c
    → (if b then (if c then Some 0 else option_map suc (place_in mine (number - 1) left)) else option_map suc (place_in mine number left)) ≡ None
    → (1 ≤ number - 1 → place_in mine (number - 1) left ≡ None → numbered (left_where mine left) (number - 1) ≡ None)
    → (place_in mine number left ≡ None → numbered (left_where mine left) number ≡ None)
    → numbered (left_where mine (first ∷ left)) number ≡ None
none_by mine number first left true true some own one e earlier here = absurd (cc)
none_by mine number first left true false some own one e earlier here =
    let many : 2 ≤ number = grind (arith, nat_tests) in
    ap (λ ops. numbered ops number) (left_where-first mine first left true own)
    ∙ (numbered_later first.op (left_where mine left) number many ∙ earlier (omega arith) (map_suc_none (place_in mine (number - 1) left) e))
none_by mine number first left false c some own one e earlier here =
    ap (λ ops. numbered ops number) (left_where-first mine first left false own) ∙ here (map_suc_none (place_in mine number left) e)

numbered-nil : (number : ℕ) → numbered {A = DiskOp} [] number ≡ None
numbered-nil zero = refl
numbered-nil (suc place) = refl

pub none_left : (mine : Leftover → Bool) (number : ℕ) (left : List Leftover) → 1 ≤ number → place_in mine number left ≡ None → numbered (left_where mine left) number ≡ None
none_left mine number [] some e = numbered-nil number
none_left mine number (first ∷ left) some e =
    none_by mine number first left (mine first) (number == 1) some refl refl e
    (λ some e. none_left mine (number - 1) left some e) (λ e. none_left mine number left some e)

late_by : (mine : Leftover → Bool) (number : ℕ) (left : List Leftover) (o : Option ℕ) → 1 ≤ number → place_in mine number left ≡ o
    → is_some o ≡ is_some (numbered (left_where mine left) number)
late_by mine number left None some e = sym (ap is_some (none_left mine number left some e))
late_by mine number left (Some place) some e = sym (ap is_some (found_left mine number left place some e).op_is)

-- there is a place exactly where there is a leftover of that number
pub place_there : (mine : Leftover → Bool) (number : ℕ) (left : List Leftover) → 1 ≤ number → is_some (place_in mine number left) ≡ is_some (numbered (left_where mine left) number)
place_there mine number left some = late_by mine number left (place_in mine number left) some refl

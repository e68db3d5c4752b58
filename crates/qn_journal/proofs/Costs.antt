-- How many bytes the text of a value has at most.
use Rattle.std.proofs.Common.{◌≡◌, ◌≤◌, ℕ, ◌+◌, ◌*◌, Bool, true, false, cond, ◌&&◌, List, [], ◌∷◌, ◌++◌, Option, None, Some, length, option_map, refl, ap, arith}
use Rattle.std.proofs.lemmas.Grind.{common_steps}
use Rattle.std.proofs.lemmas.Nat.{mul-le}
use Rattle.json.specs.Json.{Json, boolean, string, array, object}
use Rattle.json.specs.Print.{begins, ends, escape, print_from, separator, token_text}
use Rattle.json.specs.Token.{Token}
use Rattle.json.specs.Tree.{items_tokens, json_tokens, members_tokens}
use Rattle.qn_base.specs.lemmas.Decimals.{length-decimal}
use Rattle.qn_shown.specs.Entries.{Entry, entries_members}
use Rattle.qn_shown.specs.Fits.{AllOf, Fits, OnValue, Within}
use Rattle.qn_shown.specs.Spelling.{items_of, json_or_null, whole}
use Rattle.qn_journal.specs.Rooms.{IsPlain}

-- ## Tokens: each with the comma before it

abbrev pub cost : List Token → ℕ
cost [] = 0
cost (t ∷ ts) = 1 + (length (token_text t) + cost ts)

separator_cost : (after : Bool) (t : Token) → length (separator after t) ≤ 1
separator_cost after t = of_test (after && begins t)
  where
    of_test : (comma : Bool) → length {A = ℕ} (cond comma (44 ∷ []) []) ≤ 1
    of_test true = omega arith
    of_test false = omega arith

pub print_cost : (after : Bool) (ts : List Token) → length (print_from after ts) ≤ cost ts
unfolding print_from
print_cost after [] = omega arith
print_cost after (t ∷ ts) =
    let more = print_cost (ends t) ts in
    let comma = separator_cost after t in
    grind (arith, common_steps, more, comma)

tokens_then : (one other : List Token) → cost (one ++ other) ≡ cost one + cost other
tokens_then [] other = omega arith
tokens_then (t ∷ one) other = let more = tokens_then one other in omega (arith, more)

-- ## Values

abbrev pub json_cost : Json → ℕ
json_cost j = cost (json_tokens j)

pub whole_cost : (n : ℕ) → Fits n → json_cost (whole n) ≤ 21
whole_cost n fits = let digits = length-decimal n fits in omega (arith, digits)

pub truth_cost : (b : Bool) → json_cost (boolean b) ≤ 6
truth_cost true = omega arith
truth_cost false = omega arith

pub text_cost : (most : ℕ) (text : List ℕ) → IsPlain text → Within most text → json_cost (string text) ≤ most + 3
text_cost most text plain short =
    let same : length (escape text) ≡ length text = ap length plain in
    grind (arith, common_steps, same, short)

pub null_or : {A : Type 0} (spells : A → Json) (most : ℕ) → 5 ≤ most → (a : Option A) → OnValue (λ x. json_cost (spells x) ≤ most) a → json_cost (json_or_null spells a) ≤ most
null_or spells most enough None is = enough
null_or spells most enough (Some a) is = is

-- ## Members of an object

abbrev pub key_cost : List ℕ → ℕ
key_cost name = 1 + length (token_text (Token.key name))

abbrev pub value_cost : Option Json → ℕ
value_cost None = 0
value_cost (Some j) = json_cost j

abbrev pub entry_cost : Entry → ℕ
entry_cost (name, None) = 0
entry_cost (name, Some j) = key_cost name + json_cost j

abbrev pub entries_cost : List Entry → ℕ
entries_cost [] = 0
entries_cost (e ∷ rest) = entry_cost e + entries_cost rest

members_cost : (entries : List Entry) → cost (members_tokens (entries_members entries)) ≡ 2 + entries_cost entries
members_cost [] = refl
members_cost ((name, None) ∷ rest) = let more = members_cost rest in omega (arith, more)
members_cost ((name, Some j) ∷ rest) =
    let more = members_cost rest in
    let both = tokens_then (json_tokens j) (members_tokens (entries_members rest)) in
    omega (arith, more, both)

pub object_cost : (entries : List Entry) (most : ℕ) → entries_cost entries ≤ most → json_cost (object (entries_members entries)) ≤ most + 4
object_cost entries most within = let members = members_cost entries in omega (arith, members, within)

pub entry_some : (name : List ℕ) (j : Json) (most : ℕ) → json_cost j ≤ most → entry_cost (name, Some j) ≤ key_cost name + most
entry_some name j most within = omega (arith, within)

pub entry_any : (name : List ℕ) (j : Option Json) (most : ℕ) → value_cost j ≤ most → entry_cost (name, j) ≤ key_cost name + most
entry_any name None most within = omega arith
entry_any name (Some j) most within = omega (arith, within)

pub any_cost : {A : Type 0} (spells : A → Json) (most : ℕ) (a : Option A) → OnValue (λ x. json_cost (spells x) ≤ most) a → value_cost (option_map spells a) ≤ most
any_cost spells most None is = omega arith
any_cost spells most (Some a) is = is

-- ## Items of an array

items_cost : {A : Type 0} (spells : A → Json) (most : ℕ) (all : List A) → AllOf (λ a. json_cost (spells a) ≤ most) all
    → cost (items_tokens (items_of spells all)) ≤ 2 + length all * most
items_cost spells most [] are = omega arith
items_cost spells most (a ∷ rest) are =
    let more = items_cost spells most rest are.1 in
    let both = tokens_then (json_tokens (spells a)) (items_tokens (items_of spells rest)) in
    let first = are.0 in
    let product : length (a ∷ rest) * most ≡ most + length rest * most = grind (arith, common_steps) in
    omega (arith, more, both, first, product)

pub array_cost : {A : Type 0} (spells : A → Json) (most count : ℕ) (all : List A) → length all ≤ count → AllOf (λ a. json_cost (spells a) ≤ most) all
    → json_cost (array (items_of spells all)) ≤ count * most + 4
array_cost spells most count all few are =
    let items = items_cost spells most all are in
    let product : length all * most ≤ count * most = mul-le (length all) most count most few (omega arith) in
    omega (arith, items, product)

-- ## Each of a list, and where there is one

pub each : {A : Type 0} {P Q : A → Type 0} → ((a : A) → P a → Q a) → (all : List A) → AllOf P all → AllOf Q all
each f [] are = tt
each f (a ∷ rest) are = (f a are.0, each f rest are.1)

pub each_two : {A : Type 0} {P Q R : A → Type 0} → ((a : A) → P a → Q a → R a) → (all : List A) → AllOf P all → AllOf Q all → AllOf R all
each_two f [] are too = tt
each_two f (a ∷ rest) are too = (f a are.0 too.0, each_two f rest are.1 too.1)

pub on : {A : Type 0} {P Q : A → Type 0} → ((a : A) → P a → Q a) → (a : Option A) → OnValue P a → OnValue Q a
on f None is = tt
on f (Some a) is = f a is

pub on_two : {A : Type 0} {P Q R : A → Type 0} → ((a : A) → P a → Q a → R a) → (a : Option A) → OnValue P a → OnValue Q a → OnValue R a
on_two f None is too = tt
on_two f (Some a) is too = f a is too

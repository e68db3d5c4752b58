-- The Asks to the members of a mask, one rank after the other.
use Rattle.std.proofs.Common.{◌≡◌, ◌<◌, ℕ, suc, zero, ◌+◌, Bool, true, false, List, [], ◌∷◌, ◌++◌, map, Option, None, Some, refl, sym, ap, ◌∙◌, append_assoc, arith}
use Rattle.std.specs.Prelude.{filter, if◌then◌else◌}
use Rattle.std.specs.Option.{option_map, option_map_or}
use Rattle.std.specs.List.{range_with_len}
use Rattle.qn_base.specs.declared.ids.View.{View}
use Rattle.qn_model.specs.declared.outputs.Out.{Out}

abbrev picked : (ℕ → Out) → (ℕ → Bool) → ℕ → List Out
picked f test rank = if test rank then f rank ∷ [] else []

-- one number before the others
picked_front : (f : ℕ → Out) (test : ℕ → Bool) (rank : ℕ) (ranks : List ℕ) (b : Bool) → test rank ≡ b
    → map f (filter test (rank ∷ ranks)) ≡ picked f test rank ++ map f (filter test ranks)
picked_front f test rank ranks true is = rw is
picked_front f test rank ranks false is = rw is

picked_one : (f : ℕ → Out) (test : ℕ → Bool) (rank : ℕ) (b : Bool) → test rank ≡ b → map f (filter test (rank ∷ [])) ≡ picked f test rank
picked_one f test rank true is = rw is
picked_one f test rank false is = rw is

picked_from : (f : ℕ → Out) (test : ℕ → Bool) (from count : ℕ)
    → map f (filter test (range_with_len from (suc count))) ≡ map f (filter test (range_with_len from count)) ++ picked f test (from + count)
picked_from f test from zero =
    let here : from + 0 ≡ from = omega arith in
    picked_one f test from (test from) refl ∙ ap (picked f test) (sym here)
picked_from f test from (suc count) =
    let last : from + 1 + count ≡ from + suc count = omega arith in
    picked_front f test from (range_with_len (from + 1) (suc count)) (test from) refl
    ∙ (ap (λ rest. picked f test from ++ rest) (picked_from f test (from + 1) count)
    ∙ (sym (append_assoc (picked f test from) (map f (filter test (range_with_len (from + 1) count))) (picked f test (from + 1 + count)))
    ∙ (ap (λ front. front ++ picked f test (from + 1 + count)) (sym (picked_front f test from (range_with_len (from + 1) count) (test from) refl))
    ∙ ap (λ n. map f (filter test (range_with_len from (suc count))) ++ picked f test n) last)))

-- one rank more
pub picked_more : (f : ℕ → Out) (test : ℕ → Bool) (count : ℕ)
    → map f (filter test (range_with_len 0 (count + 1))) ≡ map f (filter test (range_with_len 0 count)) ++ (if test count then f count ∷ [] else [])
picked_more f test count =
    let more : count + 1 ≡ suc count = omega arith in
    let last : 0 + count ≡ count = omega arith in
    ap (λ n. map f (filter test (range_with_len 0 n))) more
    ∙ (picked_from f test 0 count ∙ ap (λ n. map f (filter test (range_with_len 0 count)) ++ picked f test n) last)

-- one rank more, under a view that may not be there
pub asks_more : (f : View → ℕ → Out) (test : ℕ → Bool) (count : ℕ) (present : Option View)
    → option_map_or (λ view. map (f view) (filter test (range_with_len 0 count))) present []
    ++ option_map_or (λ view. if test count then f view count ∷ [] else []) present []
    ≡ option_map_or (λ view. map (f view) (filter test (range_with_len 0 (count + 1)))) present []
asks_more f test count None = refl
asks_more f test count (Some view) = sym (picked_more (f view) test count)

pub asks_step : (f : View → ℕ → Out) (test : ℕ → Bool) (count : ℕ) (present : Option View) (start before after : List Out)
    → before ≡ start ++ option_map_or (λ view. map (f view) (filter test (range_with_len 0 count))) present []
    → after ≡ before ++ option_map_or (λ view. if test count then f view count ∷ [] else []) present []
    → after ≡ start ++ option_map_or (λ view. map (f view) (filter test (range_with_len 0 (count + 1)))) present []
asks_step f test count present start before after was is =
    is ∙ (ap (λ front. front ++ option_map_or (λ view. if test count then f view count ∷ [] else []) present []) was
    ∙ (append_assoc start (option_map_or (λ view. map (f view) (filter test (range_with_len 0 count))) present []) (option_map_or (λ view. if test count then f view count ∷ [] else []) present [])
    ∙ ap (λ more. start ++ more) (asks_more f test count present)))

-- nobody is asked
picked_none : (f : ℕ → Out) (test : ℕ → Bool) (from count : ℕ) → ((rank : ℕ) → rank < from + count → test rank ≡ false)
    → map f (filter test (range_with_len from count)) ≡ []
picked_none f test from zero none = refl
picked_none f test from (suc count) none =
    let here : test from ≡ false = none from (omega arith) in
    rw here (picked_none f test (from + 1) count (λ rank low. none rank (omega arith)))

pub asks_nobody : (f : View → ℕ → Out) (test : ℕ → Bool) (count : ℕ) (present : Option View) → ((rank : ℕ) → rank < count → test rank ≡ false)
    → option_map_or (λ view. map (f view) (filter test (range_with_len 0 count))) present [] ≡ []
asks_nobody f test count None none = refl
asks_nobody f test count (Some view) none = picked_none (f view) test 0 count (λ rank low. none rank (omega arith))

-- the Ask to a rank that is asked
pub ask_here : (f : View → Out) (sent : Out) (present : Option View) → Some sent ≡ option_map f present → option_map_or (λ view. f view ∷ []) present [] ≡ sent ∷ []
ask_here f sent None is = absurd (cc)
ask_here f sent (Some view) is = cc

pub ask_nowhere : (f : View → Out) (present : Option View) → None ≡ option_map f present → option_map_or (λ view. f view ∷ []) present [] ≡ []
ask_nowhere f None is = refl
ask_nowhere f (Some view) is = absurd (cc)

pub unasked : (f : View → Out) (present : Option View) → option_map_or (λ view. if false then f view ∷ [] else []) present [] ≡ []
unasked f None = refl
unasked f (Some view) = refl

-- A value is read from its right end to its left, a byte a step.
use Rattle.std.proofs.Common.{◌≡◌, ◌<◌, ◌+◌, ◌-◌, ℕ, Bool, true, false, List, [], ◌∷◌, ◌++◌, Option, Some, None, option_and_then, drop, take, length, slice_index, if◌then◌else◌, refl, sym, ap, ◌∙◌, arith}
use Rattle.std.proofs.lemmas.List.{drop_more, take-append-drop}
use Rattle.qn_event.specs.ValuesRead.{byte_before, value_in}

-- what the bytes from one place further to the left say
pub left_of : (value said : List ℕ) (place : ℕ) → place < length value → value_in (drop (length value - place) value) ≡ Some said
    → value_in (drop (length value - (place + 1)) value) ≡ byte_before (slice_index value (length value - 1 - place)) said
left_of value said place within known =
    let at = length value - (place + 1) in
    let after : at + 1 ≡ length value - place = omega (arith, within) in
    let here : length value - 1 - place ≡ at = omega arith in
    ap value_in (drop_more value at 0 (omega (arith, within)))
    ∙ ap (λ n. value_in (slice_index value at ∷ drop n value)) after
    ∙ ap (option_and_then (byte_before (slice_index value at))) known
    ∙ ap (λ n. byte_before (slice_index value n) said) (sym here)

nothing_before : (before after : List ℕ) → value_in after ≡ None → value_in (before ++ after) ≡ None
nothing_before [] after none = none
nothing_before (byte ∷ before) after none = ap (option_and_then (byte_before byte)) (nothing_before before after none)

-- where the bytes from a place on say nothing, nor does the whole
pub nothing_said : (value : List ℕ) (n : ℕ) → value_in (drop n value) ≡ None → value_in value ≡ None
nothing_said value n none = ap value_in (sym (take-append-drop n value)) ∙ nothing_before (take n value) (drop n value) none

pub neither : (b : Bool) (said : Option (List ℕ)) → said ≡ None → None ≡ (if b then said else None)
neither true said none = sym none
neither false said none = refl

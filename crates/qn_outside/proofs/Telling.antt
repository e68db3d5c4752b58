-- What a machine did, told as the calls of a node.
use Rattle.std.proofs.Common.{◌≡◌, ◌≤◌, ◌||◌, ℕ, Bool, true, false, not, List, [], ◌∷◌, ◌++◌, Option, None, Some, refl, sym, ap, subst, ◌∙◌, append_assoc}
use Rattle.std.specs.Prelude.{option_map}
use Rattle.qn_base.specs.declared.calls.Call.{Call}
use Rattle.qn_base.specs.Calls.{some_failed}
use Rattle.qn_base.specs.Faults.{HasRisen}
use Rattle.qn_base.specs.Plans.{AddsAll, Made}
use Rattle.qn_outside.specs.Deeds.{Deed, Does, Silent, call_of, calls_of}

pub calls_of-append : (xs ys : List Deed) → calls_of (xs ++ ys) ≡ calls_of xs ++ calls_of ys
calls_of-append [] ys = refl
calls_of-append (x ∷ xs) ys = ap (λ l. call_of x ++ l) (calls_of-append xs ys) ∙ sym (append_assoc (call_of x) (calls_of xs) (calls_of ys))

pub tells : (a b : Option (List Deed)) (more : List Deed) → Does a b more → AddsAll (option_map calls_of a) (option_map calls_of b) (calls_of more)
tells a None more did = tt
tells None (Some new) more did = absurd did
tells (Some old) (Some new) more did = ap calls_of did ∙ calls_of-append old more

pub does_both : (a b c : Option (List Deed)) (xs ys : List Deed) → Does a b xs → Does b c ys → Does a c (xs ++ ys)
does_both a b None xs ys first second = tt
does_both a None (Some z) xs ys first second = absurd second
does_both None (Some y) (Some z) xs ys first second = absurd first
does_both (Some x) (Some y) (Some z) xs ys first second = second ∙ ap (λ l. l ++ ys) first ∙ append_assoc x xs ys

pub does_none : (a : Option (List Deed)) → Does a a []
does_none None = tt
does_none (Some x) = refl_nil x
  where
    refl_nil : (x : List Deed) → x ≡ x ++ []
    refl_nil [] = refl
    refl_nil (d ∷ ds) = ap (λ l. d ∷ l) (refl_nil ds)

-- the calls that are told
pub told : (a b : Option (List Deed)) (deeds : List Deed) (calls : List Call) (faults risen : ℕ) → Does a b deeds → calls_of deeds ≡ calls → faults ≤ risen
    → (some_failed calls ≡ true → HasRisen faults risen) → Made faults risen (option_map calls_of a) (option_map calls_of b) calls
told a b deeds calls faults risen did is falls cause =
    record { adds = subst (AddsAll (option_map calls_of a) (option_map calls_of b)) is (tells a b deeds did); never_falls = falls; cause = cause }

-- one call failed, where it was not done
pub failed_as : {P : Type 0} (ok done : Bool) → ok ≡ done → (ok ≡ false → P) → (not done || false) ≡ true → P
failed_as ok true is cause failed = absurd (let no : false ≡ true = failed in cc)
failed_as ok false is cause failed = cause is

-- deeds that are no call
pub silent_one : (a b : Option (List Deed)) (deed : Deed) → Does a b (deed ∷ []) → call_of deed ≡ [] → Silent a b
silent_one a b deed did none = record { deeds = deed ∷ []; did = did; none = ap (λ l. l ++ []) none }

pub silent_step : (a b c : Option (List Deed)) (deed : Deed) → Silent a b → Does b c (deed ∷ []) → call_of deed ≡ [] → Silent a c
silent_step a b c deed before did none =
    record {
      deeds = before.deeds ++ deed ∷ [];
      did = does_both a b c before.deeds (deed ∷ []) before.did did;
      none = calls_of-append before.deeds (deed ∷ []) ∙ ap (λ l. l ++ calls_of (deed ∷ [])) before.none ∙ ap (λ l. l ++ []) none;
    }

-- a call that cannot fail did not
pub none_failed : {P : Type 0} → false ≡ true → P
none_failed is = absurd (let never : false ≡ true = is in cc)

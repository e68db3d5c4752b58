-- Nesting, one item at a time.
use Rattle.std.proofs.Common.{◌≡◌, ℕ, ◌+◌, ◌-◌, ◌<◌, ◌≤◌, ◌==◌, Bool, true, false, cond, List, [], ◌∷◌, ◌++◌, length, take, count_by, Some, None, sym, refl, ⊎_elim, arith, ◌≢◌, length-append}
use Rattle.std.proofs.lemmas.List.{take-append-le, take_all, append-nil}
use Rattle.std.proofs.lemmas.List.Sums.{sum_by_push}
use Rattle.std.proofs.lemmas.Bool.{cases_lt, false≢true}
use borrow.Author.Tests.{eqb-false}
use Rattle.std.proofs.Math.Seq.{take-append_seam}
use Rattle.std.proofs.lemmas.Bool.Decides.{eqb_tells}
use Rattle.qn_conf.specs.declared.faults.ConfFault.{ConfFault}
use Rattle.qn_conf.specs.declared.faults.ConfFault.TheVariants.{ExtraClose, TooDeep}
use Rattle.qn_conf.specs.declared.tree.Item.{Item}
use Rattle.qn_conf.specs.declared.tree.Item.TheVariants.{Enter, Exit, Pair}
use Rattle.qn_conf.specs.declared.line.Meaning.{Meaning}
use Rattle.qn_conf.specs.declared.line.Meaning.TheVariants.{PassedOver, Says, Bad}
use Rattle.qn_conf.specs.Line.{item_in, IsKnown}
use Rattle.qn_conf.specs.Nesting.{begins, ends, is_begin, is_end, IsNested}
use Rattle.qn_conf.specs.Conf.{fault_in}

-- what is counted in a list and in one item after it
pub count_by-push :
    (p : Item → Bool) (xs : List Item) (x : Item) → count_by p (xs ++ x ∷ []) ≡ count_by p xs + cond (p x) 1 0
count_by-push p xs x = sum_by_push (λ y. cond (p y) 1 0) xs x

-- the whole list is one of its prefixes
pub nested_whole : (xs : List Item) → IsNested xs → (ends xs ≤ begins xs) × (begins xs ≤ ends xs + 4)
nested_whole xs h =
    let whole : take (length xs) xs ≡ xs = take_all (length xs) xs (omega arith)
    in rw whole at (h (length xs))

pub IsNested-push :
    (xs : List Item) (x : Item)
    → IsNested xs
    → ends (xs ++ x ∷ []) ≤ begins (xs ++ x ∷ [])
    → begins (xs ++ x ∷ []) ≤ ends (xs ++ x ∷ []) + 4
    → IsNested (xs ++ x ∷ [])
IsNested-push xs x h low high n =
    ⊎_elim
    (λ (more : length xs < n).
    let whole : take n (xs ++ x ∷ []) ≡ xs ++ x ∷ [] = take_all n _ (simp length-append (omega arith))
    in rw whole (low, high))
    (λ (le : n ≤ length xs).
    let front : take n (xs ++ x ∷ []) ≡ take n xs = take-append-le n xs (x ∷ []) le
    in rw front (h n))
    (cases_lt (length xs) n)

pub IsNested-front : (xs ys : List Item) → IsNested (xs ++ ys) → IsNested xs
IsNested-front xs ys h n =
    ⊎_elim
    (λ (more : length xs < n).
    let whole : take n xs ≡ xs = take_all n xs (omega arith)
    in let front : take (length xs) (xs ++ ys) ≡ xs = take-append_seam xs ys
    in rw whole (rw front at (h (length xs))))
    (λ (le : n ≤ length xs).
    let front : take n (xs ++ ys) ≡ take n xs = take-append-le n xs ys le
    in rw front at (h n))
    (cases_lt (length xs) n)

pub eqb_differ : (a b : ℕ) → a ≢ b → (a == b) ≡ false
eqb_differ a b apart = ⊎_elim (λ t. absurd (apart t.1)) (λ f. f.0) (eqb_tells a b)

-- of a test that chooses a fault or none
pub no_fault : (b : Bool) (fault : ConfFault) → cond b (Some fault) None ≡ None → b ≡ false
no_fault true fault e = cc
no_fault false fault e = refl

none_of : (b : Bool) (fault : ConfFault) → b ≡ false → cond b (Some fault) None ≡ None
none_of true fault e = absurd (false≢true (sym e))
none_of false fault e = refl

-- a line without a fault is of a known kind, and its item keeps the nesting
pub step :
    (items : List Item) (number : ℕ) (m : Meaning)
    → IsNested items
    → fault_in number (begins items - ends items) m ≡ None
    → IsKnown m × IsNested (items ++ item_in m)
step items number PassedOver h e = (tt, rw append-nil h)
step items number (Says (Enter name)) h e =
    let apart : (begins items - ends items) ≢ 4 = eqb-false _ _ (no_fault _ (TooDeep number) e)
    in let bounds = nested_whole items h
    in let b = count_by-push is_begin items (Enter name)
    in let d = count_by-push is_end items (Enter name)
    in (tt, IsNested-push items _ h (omega arith) (omega arith))
step items number (Says Exit) h e =
    let apart : (begins items - ends items) ≢ 0 = eqb-false _ _ (no_fault _ (ExtraClose number) e)
    in let bounds = nested_whole items h
    in let b = count_by-push is_begin items Exit
    in let d = count_by-push is_end items Exit
    in (tt, IsNested-push items _ h (omega arith) (omega arith))
step items number (Says (Pair key value)) h e =
    let bounds = nested_whole items h
    in let b = count_by-push is_begin items (Pair key value)
    in let d = count_by-push is_end items (Pair key value)
    in (tt, IsNested-push items _ h (omega arith) (omega arith))
step items number Bad h e = cc

-- and the other way round
pub step_back :
    (items : List Item) (number : ℕ) (m : Meaning)
    → IsNested items
    → IsKnown m
    → IsNested (items ++ item_in m)
    → fault_in number (begins items - ends items) m ≡ None
step_back items number PassedOver h k g = refl
step_back items number (Says (Enter name)) h k g =
    let bounds = nested_whole items h
    in let after = nested_whole _ g
    in let b = count_by-push is_begin items (Enter name)
    in let d = count_by-push is_end items (Enter name)
    in none_of _ (TooDeep number) (eqb_differ _ _ (omega arith))
step_back items number (Says Exit) h k g =
    let bounds = nested_whole items h
    in let after = nested_whole _ g
    in let b = count_by-push is_begin items Exit
    in let d = count_by-push is_end items Exit
    in none_of _ (ExtraClose number) (eqb_differ _ _ (omega arith))
step_back items number (Says (Pair key value)) h k g = refl
step_back items number Bad h k g = absurd k

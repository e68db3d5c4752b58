-- Laws of plans: how the calls of one plan after another join, and what `Did` and `At` say, step by step. This project's
-- profile.
use Rattle.std.proofs.Common.{◌≡◌, ◌≤◌, ℕ, Bool, true, false, ◌||◌, Option, None, Some, List, [], ◌∷◌, ◌++◌, refl, sym, ap, subst, ◌∙◌, append_assoc, arith}
use Rattle.std.proofs.lemmas.List.{append-nil}
use Rattle.std.proofs.Math.Bool.{or_assoc}
use Rattle.qn_base.specs.declared.calls.Call.{Call}
use Rattle.qn_base.specs.Calls.{blank, is_failed, some_failed}
use Rattle.qn_base.specs.Faults.{HasRisen}
use Rattle.qn_base.specs.Plans.{Plan, Ends, Asks, ◌>>=◌, Follows, AddsAll, Made, Did, At, question, left}
use Rattle.qn_base.specs.Rising.{HasRisen-within}

-- no call adds nothing
AddsAll-none : (told : Option (List Call)) → AddsAll told told []
AddsAll-none None = tt
AddsAll-none (Some calls) = sym (append-nil calls)

-- calls and then more calls
AddsAll-then : (first second third : Option (List Call)) (calls more : List Call) → AddsAll first second calls → AddsAll second third more → AddsAll first third (calls ++ more)
AddsAll-then first second None calls more h k = tt
AddsAll-then first None (Some third) calls more h k = absurd k
AddsAll-then None (Some second) (Some third) calls more h k = absurd h
AddsAll-then (Some first) (Some second) (Some third) calls more h k =
    k ∙ ap (λ x. x ++ more) h ∙ append_assoc first calls more

-- a call of a joined list failed exactly where one of its parts has it
pub some_failed-append : (calls more : List Call) → some_failed (calls ++ more) ≡ (some_failed calls || some_failed more)
some_failed-append [] more = refl
some_failed-append (call ∷ calls) more =
    ap (λ x. is_failed call || x) (some_failed-append calls more) ∙ sym (or_assoc (is_failed call) (some_failed calls) (some_failed more))

-- the cause of a fault in the one part or in the other
cause_then : (first second third : ℕ) (one other : Bool) → first ≤ second → second ≤ third → (one ≡ true → HasRisen first second) → (other ≡ true → HasRisen second third) → (one || other) ≡ true → HasRisen first third
cause_then first second third true other before after h k failed =
    HasRisen-within first first second third (omega arith) before after (h refl)
cause_then first second third false other before after h k failed =
    HasRisen-within first second third third before after (omega arith) (k failed)

-- no call was made
pub made_none : (faults : ℕ) (told : Option (List Call)) → Made faults faults told told []
made_none faults told =
    record { adds = AddsAll-none told; never_falls = omega arith; cause = λ failed. cc }

-- calls were made, and then more calls
pub made_then : {f g h : ℕ} {a b c : Option (List Call)} {calls more : List Call} → Made f g a b calls → Made g h b c more → Made f h a c (calls ++ more)
made_then {f} {g} {h} {a} {b} {c} {calls} {more} first second =
    record {
      adds = AddsAll-then a b c calls more first.adds second.adds;
      never_falls = omega arith;
      cause =
          λ failed.
          cause_then f g h (some_failed calls) (some_failed more) first.never_falls second.never_falls first.cause second.cause (sym (some_failed-append calls more) ∙ failed);
    }

-- the calls of a plan, and then those of the plan that goes on from its value
pub follows_then : {A B : Type 0} (plan : Plan A) (next : A → Plan B) (calls more : List Call) (value : A) (result : B) → Follows plan calls value → Follows (next value) more result → Follows (plan >>= next) (calls ++ more) result
follows_then {A} {B} (Ends end) next calls more value result did left =
    rw did.0 (subst (λ (x : A). Follows (next x) more result) did.1 left)
follows_then (Asks question left_of) next [] more value result did left = absurd did
follows_then (Asks question left_of) next (call ∷ calls) more value result did left =
    (did.0, follows_then (left_of call) next calls more value result did.1 left)

-- a plan that ends at once makes no call
pub did_none : {A : Type 0} (faults : ℕ) (told : Option (List Call)) (value : A) → Did faults faults told told (Ends value) value
did_none faults told value =
    record { calls = []; made = made_none faults told; follows = (refl, refl) }

-- one call, after which the plan ends
pub did_call : {A : Type 0} {f g : ℕ} {a b : Option (List Call)} (question call : Call) (left : Call → Plan A) (value : A) → Made f g a b (call ∷ []) → blank call ≡ question → Follows (left call) [] value → Did f g a b (Asks question left) value
did_call question call left value made asked ended =
    record { calls = call ∷ []; made = made; follows = (asked, ended) }

-- a plan, and then the one that goes on from its value
pub did_then : {A B : Type 0} {f g h : ℕ} {a b c : Option (List Call)} {plan : Plan A} {value : A} (next : A → Plan B) (result : B) → Did f g a b plan value → Did g h b c (next value) result → Did f h a c (plan >>= next) result
did_then {plan} {value} next result first second =
    record {
      calls = first.calls ++ second.calls;
      made = made_then first.made second.made;
      follows = follows_then plan next first.calls second.calls value result first.follows second.follows;
    }

-- at the start the whole plan is left
pub at_start : {A : Type 0} (faults : ℕ) (told : Option (List Call)) (whole : Plan A) → At faults faults told told whole whole
at_start faults told whole =
    record { calls = []; made = made_none faults told; goes_on = λ more value follows. follows }

-- a part of what was left is done
pub at_then : {A B : Type 0} {f g h : ℕ} {a b c : Option (List Call)} {whole : Plan B} {plan : Plan A} {value : A} (next : A → Plan B) → At f g a b whole (plan >>= next) → Did g h b c plan value → At f h a c whole (next value)
at_then {whole} {plan} {value} next before did =
    record {
      calls = before.calls ++ did.calls;
      made = made_then before.made did.made;
      goes_on =
          λ more result follows.
          rw append_assoc (before.goes_on (did.calls ++ more) result (follows_then plan next did.calls more value result did.follows follows));
    }

-- all that was left is done
pub at_end : {A : Type 0} {f g h : ℕ} {a b c : Option (List Call)} {whole left : Plan A} {value : A} → At f g a b whole left → Did g h b c left value → Did f h a c whole value
at_end {value} before did =
    record {
      calls = before.calls ++ did.calls;
      made = made_then before.made did.made;
      follows = before.goes_on did.calls value did.follows;
    }

-- a plan whose value ends the whole at once
pub did_map : {A B : Type 0} {f g : ℕ} {a b : Option (List Call)} {plan : Plan A} {value : A} (next : A → Plan B) (result : B) → Did f g a b plan value → Follows (next value) [] result → Did f g a b (plan >>= next) result
did_map {plan} {value} next result did ended =
    record {
      calls = did.calls;
      made = did.made;
      follows = subst (λ (x : List Call). Follows (plan >>= next) x result) (append-nil did.calls) (follows_then plan next did.calls [] value result did.follows ended);
    }

-- a list of calls that follows a plan ends it with one value
pub one_end : {A : Type 0} (plan : Plan A) (calls : List Call) (value other : A) → Follows plan calls value → Follows plan calls other → value ≡ other
one_end (Ends end) calls value other h k = h.1 ∙ sym k.1
one_end (Asks question left) [] value other h k = absurd h
one_end (Asks question left) (call ∷ calls) value other h k = one_end (left call) calls value other h.1 k.1

-- a list of calls that follows a plan is no prefix of a longer one
pub no_longer : {A : Type 0} (plan : Plan A) (calls : List Call) (call : Call) (more : List Call) (value other : A) → Follows plan calls value → Follows plan (calls ++ call ∷ more) other → ⊥
no_longer (Ends end) [] call more value other h k = cc
no_longer (Ends end) (first ∷ calls) call more value other h k = cc
no_longer (Asks question left) [] call more value other h k = absurd h
no_longer (Asks question left) (first ∷ calls) call more value other h k = no_longer (left first) calls call more value other h.1 k.1

-- one call further: the calls of what is left after a call, and that call before them
pub follows_call : {A : Type 0} (plan : Plan A) (call : Call) (more : List Call) (value : A) → question plan ≡ Some (blank call) → Follows (left plan call) more value → Follows plan (call ∷ more) value
follows_call (Ends end) call more value asked follows = absurd cc
follows_call (Asks wanted left_of) call more value asked follows = (cc, follows)

-- the call that comes next was made
pub at_call : {A : Type 0} {f g h : ℕ} {a b c : Option (List Call)} {whole plan : Plan A} {call : Call} → At f g a b whole plan → question plan ≡ Some (blank call) → Made g h b c (call ∷ []) → At f h a c whole (left plan call)
at_call {plan} {call} before asked made =
    record {
      calls = before.calls ++ call ∷ [];
      made = made_then before.made made;
      goes_on =
          λ more value follows.
          rw (append_assoc before.calls (call ∷ []) more) (before.goes_on (call ∷ more) value (follows_call plan call more value asked follows));
    }

-- no call is left
pub at_over : {A : Type 0} {f g : ℕ} {a b : Option (List Call)} {whole plan : Plan A} {value : A} → At f g a b whole plan → plan ≡ Ends value → Did f g a b whole value
at_over {whole} {plan} {value} before over =
    let ended : Follows plan [] value = rw over (refl, refl) in
    record {
      calls = before.calls;
      made = before.made;
      follows = subst (λ (x : List Call). Follows whole x value) (append-nil before.calls) (before.goes_on [] value ended);
    }

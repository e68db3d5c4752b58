-- A value that each call of a plan changes, and what holds of it where the plan ends.
use Rattle.std.proofs.Common.{◌≡◌, List, [], ◌∷◌, sym, subst}
use Rattle.qn_base.specs.declared.calls.Call.{Call}
use Rattle.qn_base.specs.Calls.{blank}
use Rattle.qn_base.specs.Plans.{Plan, Ends, Asks, ◌>>=◌, Follows}

-- where each call is fit, the plan ends with a value that stands so to the last value
abbrev pub Through : {S A : Type 0} → (S → Call → Type 0) → (S → Call → S) → (S → A → Type 0) → S → Plan A → Type 0
Through fit step P now (Ends value) = P now value
Through fit step P now (Asks question left) =
    (call : Call) → blank call ≡ question → fit now call → Through fit step P (step now call) (left call)

-- each call of a list is fit, and the value after all of them
abbrev pub AllFit : {S : Type 0} → (S → Call → Type 0) → (S → Call → S) → S → List Call → Type 0
AllFit fit step now [] = Unit {0}
AllFit fit step now (call ∷ calls) = fit now call × AllFit fit step (step now call) calls

abbrev pub after_all : {S : Type 0} → (S → Call → S) → S → List Call → S
after_all step now [] = now
after_all step now (call ∷ calls) = after_all step (step now call) calls

pub through_follows : {S A : Type 0} (fit : S → Call → Type 0) (step : S → Call → S) (P : S → A → Type 0) (now : S) (plan : Plan A) (calls : List Call) (value : A) → Through fit step P now plan → AllFit fit step now calls → Follows plan calls value → P (after_all step now calls) value
through_follows fit step P now (Ends end) [] value through fits follows = subst (P now) (sym follows.1) through
through_follows fit step P now (Ends end) (call ∷ calls) value through fits follows = absurd (let e = follows.0 in cc)
through_follows fit step P now (Asks question left) [] value through fits follows = absurd follows
through_follows fit step P now (Asks question left) (call ∷ calls) value through fits follows =
    through_follows fit step P (step now call) (left call) calls value (through call follows.0 fits.0) fits.1 follows.1

pub through_then : {S A B : Type 0} (fit : S → Call → Type 0) (step : S → Call → S) (P : S → A → Type 0) (Q : S → B → Type 0) (now : S) (plan : Plan A) (next : A → Plan B) → Through fit step P now plan → ((later : S) (value : A) → P later value → Through fit step Q later (next value)) → Through fit step Q now (plan >>= next)
through_then fit step P Q now (Ends value) next through goes_on = goes_on now value through
through_then fit step P Q now (Asks question left) next through goes_on =
    λ call asked fits. through_then fit step P Q (step now call) (left call) next (through call asked fits) goes_on

-- What a plan ends with, whatever it is answered.
use Rattle.std.proofs.Common.{List, [], ◌∷◌, sym, subst}
use Rattle.qn_base.specs.declared.calls.Call.{Call}
use Rattle.qn_base.specs.Plans.{Plan, Ends, Asks, ◌>>=◌, Follows}

-- each value that the plan can end with is so
abbrev pub Always : {A : Type 0} → (A → Type 0) → Plan A → Type 0
Always P (Ends value) = P value
Always P (Asks question left) = (call : Call) → Always P (left call)

pub always_follows : {A : Type 0} (P : A → Type 0) (plan : Plan A) (calls : List Call) (value : A) → Always P plan → Follows plan calls value → P value
always_follows P (Ends end) calls value always follows = subst P (sym follows.1) always
always_follows P (Asks question left) [] value always follows = absurd follows
always_follows P (Asks question left) (call ∷ calls) value always follows =
    always_follows P (left call) calls value (always call) follows.1

pub always_then : {A B : Type 0} (P : A → Type 0) (Q : B → Type 0) (plan : Plan A) (next : A → Plan B) → Always P plan → ((value : A) → P value → Always Q (next value)) → Always Q (plan >>= next)
always_then P Q (Ends value) next always goes_on = goes_on value always
always_then P Q (Asks question left) next always goes_on =
    λ call. always_then P Q (left call) next (always call) goes_on

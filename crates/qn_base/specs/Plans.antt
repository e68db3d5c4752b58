use Rattle.std.specs.Prelude.{◌≡◌, ◌≤◌, ℕ, true, Option, None, Some, List, [], ◌∷◌, ◌++◌}
use Rattle.qn_base.specs.declared.calls.Call.{Call}
use Rattle.qn_base.specs.Calls.{blank, some_failed}
use Rattle.qn_base.specs.Faults.{HasRisen}

-- this project's profile: what a function of the outside does. It ends with a value, or it makes a call
-- and goes on as that call, with its answer, says.
pub data Plan (A : Type 0) : Type 0 where
  Ends : A → Plan A
  Asks : Call → (Call → Plan A) → Plan A

infixl 10 ◌>>=◌
-- the first plan, and then the plan that follows from its value
abbrev pub ◌>>=◌ : {A B : Type 0} → Plan A → (A → Plan B) → Plan B
(Ends value) >>= next = next value
(Asks question left) >>= next = Asks question (λ call. left call >>= next)

-- the calls, with their answers, are exactly those of the plan, which then ends with the value
abbrev pub Follows : {A : Type 0} → Plan A → List Call → A → Type 0
Follows (Ends end) calls value = (calls ≡ []) × (value ≡ end)
Follows (Asks question left) [] value = ⊥
Follows (Asks question left) (call ∷ calls) value = (blank call ≡ question) × Follows (left call) calls value

-- the call that a plan makes next, with its answer wiped: none where the plan ends
abbrev pub question : {A : Type 0} → Plan A → Option Call
question (Ends value) = None
question (Asks asked left_of) = Some asked

-- what is left of a plan after a call
abbrev pub left : {A : Type 0} → Plan A → Call → Plan A
left (Ends value) call = Ends value
left (Asks asked left_of) call = left_of call

-- the list of calls that an outside tells grew by exactly these, where it is still told
abbrev pub AddsAll : Option (List Call) → Option (List Call) → List Call → Type 0
AddsAll old None more = Unit {0}
AddsAll None (Some new) more = ⊥
AddsAll (Some old) (Some new) more = new ≡ old ++ more

-- what is known of an outside after calls: `faults` counts its faults and `told` is the list of calls
-- that it tells, each before and after
pub record Made (faults_old faults_new : ℕ) (told_old told_new : Option (List Call)) (calls : List Call) : Type 0 where
  pub adds : AddsAll told_old told_new calls
  pub never_falls : faults_old ≤ faults_new
  pub cause : some_failed calls ≡ true → HasRisen faults_old faults_new

-- the calls of the plan were made, with these answers and no others, and it ended with the value
pub record Did {A : Type 0} (faults_old faults_new : ℕ) (told_old told_new : Option (List Call)) (plan : Plan A) (value : A) : Type 0 where
  pub calls : List Call
  pub made : Made faults_old faults_new told_old told_new calls
  pub follows : Follows plan calls value

-- in the midst of the whole plan: calls were made, and this is left of it
pub record At {A : Type 0} (faults_old faults_new : ℕ) (told_old told_new : Option (List Call)) (whole left : Plan A) : Type 0 where
  pub calls : List Call
  pub made : Made faults_old faults_new told_old told_new calls
  pub goes_on : (more : List Call) (value : A) → Follows left more value → Follows whole (calls ++ more) value

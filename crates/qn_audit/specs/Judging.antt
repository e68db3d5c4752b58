-- How far a list of calls with their answers is a run of a plan: this project's profile.
use Rattle.std.specs.Prelude.{◌≡◌, None, Some, List, [], ◌∷◌}
use Rattle.qn_base.specs.declared.calls.Call.{Call}
use Rattle.qn_base.specs.Calls.{blank}
use Rattle.qn_base.specs.Plans.{Plan, Ends, Asks, question, left}

-- the call is the one that the plan asks for next, whatever it answered
abbrev pub IsNext : {A : Type 0} → Plan A → Call → Type 0
IsNext plan call = question plan ≡ Some (blank call)

-- what is left of a plan after calls
abbrev pub left_after : {A : Type 0} → Plan A → List Call → Plan A
left_after plan [] = plan
left_after plan (call ∷ calls) = left_after (left plan call) calls

-- each of the calls is the one that the plan asks for after the calls before it
abbrev pub Keeps : {A : Type 0} → Plan A → List Call → Type 0
Keeps plan [] = Unit {0}
Keeps plan (call ∷ calls) = IsNext plan call × Keeps (left plan call) calls

-- the plan asks for a further call
abbrev pub GoesOn : {A : Type 0} → Plan A → Type 0
GoesOn plan = (wanted : Call) × (question plan ≡ Some wanted)

-- the calls are a whole run of the plan, which then ends
abbrev pub IsWhole : {A : Type 0} → Plan A → List Call → Type 0
IsWhole plan calls = Keeps plan calls × (question (left_after plan calls) ≡ None)

-- the calls are the beginning of a run of the plan, which goes on
abbrev pub IsPrefix : {A : Type 0} → Plan A → List Call → Type 0
IsPrefix plan calls = Keeps plan calls × GoesOn (left_after plan calls)

-- the call after these ones is the first that the plan does not ask for
abbrev pub IsFirstOther : {A : Type 0} → Plan A → List Call → Call → Type 0
IsFirstOther plan before call = Keeps plan before × (IsNext (left_after plan before) call → ⊥)

-- each question of the plan has no answer, as the question of a call has none
abbrev pub AsksWiped : {A : Type 0} → Plan A → Type 0
AsksWiped (Ends value) = Unit {0}
AsksWiped (Asks wanted left_of) = (blank wanted ≡ wanted) × ((call : Call) → AsksWiped (left_of call))

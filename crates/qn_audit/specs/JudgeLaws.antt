-- Laws of audits: a list of calls is exactly one of a whole run, the beginning of a run, and none, and the first call that
-- is not asked for stands at one place. This project's profile.
use Rattle.std.proofs.Common.{◌≡◌, Some, List, [], ◌∷◌, ◌++◌, refl, sym, ap, subst, ◌∙◌}
use Rattle.qn_base.specs.declared.calls.Call.{Call}
use Rattle.qn_base.specs.Calls.{blank}
use Rattle.qn_base.specs.Plans.{Plan, Ends, Asks, Follows, left}
use Rattle.qn_audit.specs.Judging.{AsksWiped, IsFirstOther, IsPrefix, IsWhole}

-- a whole run ends with a value
pub whole_follows : {A : Type 0} (plan : Plan A) (calls : List Call) → IsWhole plan calls → (value : A) × Follows plan calls value
whole_follows (Ends value) [] whole = (value, (refl, refl))
whole_follows (Ends value) (call ∷ calls) whole = absurd cc
whole_follows (Asks wanted left_of) [] whole = absurd cc
whole_follows (Asks wanted left_of) (call ∷ calls) whole =
    let rest = whole_follows (left_of call) calls (whole.0.1, whole.1) in (rest.0, (cc, rest.1))

-- calls that follow a plan are a whole run of it
pub follows_whole : {A : Type 0} (plan : Plan A) (calls : List Call) (value : A) → Follows plan calls value → IsWhole plan calls
follows_whole (Ends end) [] value follows = (tt, refl)
follows_whole (Ends end) (call ∷ calls) value follows = absurd cc
follows_whole (Asks wanted left_of) [] value follows = absurd follows
follows_whole (Asks wanted left_of) (call ∷ calls) value follows =
    let rest = follows_whole (left_of call) calls value follows.1 in ((cc, rest.0), rest.1)

-- what comes before a further call of a list that follows a plan is the beginning of a run
pub front_is_prefix : {A : Type 0} (plan : Plan A) (calls : List Call) (call : Call) (more : List Call) (value : A) → Follows plan (calls ++ call ∷ more) value → IsPrefix plan calls
front_is_prefix (Ends end) [] call more value follows = absurd cc
front_is_prefix (Ends end) (first ∷ calls) call more value follows = absurd cc
front_is_prefix (Asks wanted left_of) [] call more value follows = (tt, (wanted, refl))
front_is_prefix (Asks wanted left_of) (first ∷ calls) call more value follows =
    let rest = front_is_prefix (left_of first) calls call more value follows.1 in ((cc, rest.0), rest.1)

-- a plan whose questions are wiped ends after some calls
some_run : {A : Type 0} (plan : Plan A) → AsksWiped plan → (calls : List Call) × ((value : A) × Follows plan calls value)
some_run (Ends value) wiped = ([], (value, (refl, refl)))
some_run (Asks wanted left_of) wiped =
    let rest = some_run (left_of wanted) (wiped.1 wanted) in (wanted ∷ rest.0, (rest.1.0, (wiped.0, rest.1.1)))

-- the beginning of a run is the front of a list that follows the plan
pub prefix_goes_on : {A : Type 0} (plan : Plan A) (calls : List Call) → AsksWiped plan → IsPrefix plan calls → (call : Call) × ((more : List Call) × ((value : A) × Follows plan (calls ++ call ∷ more) value))
prefix_goes_on (Ends end) [] wiped prefix = absurd cc
prefix_goes_on (Ends end) (first ∷ calls) wiped prefix = absurd cc
prefix_goes_on (Asks wanted left_of) [] wiped prefix =
    let rest = some_run (left_of wanted) (wiped.1 wanted) in (wanted, (rest.0, (rest.1.0, (wiped.0, rest.1.1))))
prefix_goes_on (Asks wanted left_of) (first ∷ calls) wiped prefix =
    let rest = prefix_goes_on (left_of first) calls (wiped.1 first) (prefix.0.1, prefix.1) in
    (rest.0, (rest.1.0, (rest.1.1.0, (cc, rest.1.1.1))))

-- no list that follows the plan has a call that is not asked for
pub other_is_no_run : {A : Type 0} (plan : Plan A) (before : List Call) (call : Call) (more : List Call) → IsFirstOther plan before call → (value : A) → Follows plan (before ++ call ∷ more) value → ⊥
other_is_no_run (Ends end) [] call more other value follows = cc
other_is_no_run (Ends end) (first ∷ before) call more other value follows = cc
other_is_no_run (Asks wanted left_of) [] call more other value follows = other.1 (ap Some (sym follows.0))
other_is_no_run (Asks wanted left_of) (first ∷ before) call more other value follows =
    other_is_no_run (left_of first) before call more (other.0.1, other.1) value follows.1

-- the first call that is not asked for stands at one place
pub one_first_other : {A : Type 0} (plan : Plan A) (before others : List Call) (call next : Call) (more rest : List Call) → IsFirstOther plan before call → IsFirstOther plan others next → before ++ call ∷ more ≡ others ++ next ∷ rest → before ≡ others
one_first_other plan [] [] call next more rest first second same = refl
one_first_other plan [] (other ∷ others) call next more rest first second same =
    let is : call ≡ other = cc in absurd (first.1 (second.0.0 ∙ ap (λ c. Some (blank c)) (sym is)))
one_first_other plan (other ∷ before) [] call next more rest first second same =
    let is : next ≡ other = cc in absurd (second.1 (first.0.0 ∙ ap (λ c. Some (blank c)) (sym is)))
one_first_other plan (one ∷ before) (other ∷ others) call next more rest first second same =
    let is : one ≡ other = cc in
    let behind : before ++ call ∷ more ≡ others ++ next ∷ rest = cc in
    let firsts : IsFirstOther (left plan other) before call = subst (λ (c : Call). IsFirstOther (left plan c) before call) is (first.0.1, first.1) in
    let same_front = one_first_other (left plan other) before others call next more rest firsts (second.0.1, second.1) behind in
    rw is (ap (λ calls. other ∷ calls) same_front)

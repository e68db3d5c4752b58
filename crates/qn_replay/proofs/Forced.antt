-- What happens where not even time may pass is allowed.
use Rattle.std.proofs.Common.{◌≡◌, ℕ, ◌+◌, ◌-◌, ◌*◌, ◌%◌, Bool, true, false, ◌&&◌, Option, None, Some, refl, sym, ap, ap₂, ◌∙◌, arith, nat_le, nat_lt}
use Rattle.std.specs.Prelude.{if◌then◌else◌}
use Rattle.std.proofs.lemmas.Bool.{and_parts}
use Rattle.std.proofs.lemmas.Bool.Decides.{nat_tests}
use Rattle.qn_model.specs.declared.configuration.Settings.{Settings}
use Rattle.qn_model.specs.declared.events.Event.{Event}
use Rattle.qn_model.specs.declared.events.Event.TheVariants.{Crash}
use Rattle.qn_model.specs.declared.times.Timing.{Timing}
use Rattle.qn_model.specs.Moments.{time}
use Rattle.qn_model.specs.Rules.{is_within_bounds, outlives, passes, refusal, unless}
use Rattle.qn_model.specs.Unmet.{least_from}
use Rattle.qn_model.specs.World.{World, node_at}
use Rattle.std.specs.Option.{option_map_or}
use Rattle.qn_base.specs.declared.ids.Rank.{Rank}
use Rattle.qn_world.specs.declared.pending.Pending.{Pending}
use Rattle.qn_world.specs.Pending.{pending_of}
use Rattle.qn_replay.specs.declared.choice.Choice.{Choice}
use Rattle.qn_replay.specs.Draws.{draw_at, next_state}
use Rattle.qn_replay.specs.Generator.{undrawn, soak_settings, soak_timing, pending_at, is_overdue, overdue, forced, may_happen, moment, in_place, candidate, chosen_event, choice_of, next_event}
use Rattle.qn_replay.proofs.Choices.{pending_as}

not_above : (x y : ℕ) → nat_lt y x ≡ false → nat_le x y ≡ true
not_above x y not_more = grind (arith, nat_tests)

-- a node that is not overdue lives through one more millisecond
lives : (on : Bool) (now fed : ℕ) → (on && nat_lt 500000 (99 * (now + 1 - (if on then fed else 0)))) ≡ false
    → (if on then is_within_bounds 1 100 && outlives soak_timing (now + 1) fed else true) ≡ true
lives false now fed not_over = refl
lives true now fed not_over = not_above (99 * (now + 1 - fed)) 500000 not_over

all_true : (x y z : Bool) → x ≡ true → y ≡ true → z ≡ true → (x && (y && (z && true))) ≡ true
all_true x y z first second third = rw (first, second, third) refl

-- the world after which no node is overdue
moment_allowed : (d : World) → is_overdue (time d.moments) (pending_at 0 d) ≡ false → is_overdue (time d.moments) (pending_at 1 d) ≡ false
    → is_overdue (time d.moments) (pending_at 2 d) ≡ false → refusal soak_settings soak_timing moment d ≡ None
unfolding refusal
moment_allowed d first second third =
    let now = time d.moments in
    let zero = node_at soak_settings 0 d in
    let one = node_at soak_settings 1 d in
    let two = node_at soak_settings 2 d in
    ap (λ b. unless b 1)
    (all_true (passes soak_timing 1 100 now zero) (passes soak_timing 1 100 now one) (passes soak_timing 1 100 now two)
    (lives zero.on now zero.fed first) (lives one.on now one.fed second) (lives two.on now two.fed third))

crash_allowed : (d : World) (rank : ℕ) → (node_at soak_settings rank d).on ≡ true → refusal soak_settings soak_timing (Crash (record { 0 = rank })) d ≡ None
unfolding refusal
crash_allowed d rank on = rw on refl

-- the crash of the least overdue node, by the three tests
abbrev picked : Bool → Bool → Bool → Event
picked true second third = Crash (record { 0 = 0 })
picked false true third = Crash (record { 0 = 1 })
picked false false true = Crash (record { 0 = 2 })
picked false false false = moment

forced_is : (d : World) (first second third : Bool) → is_overdue (time d.moments) (pending_at 0 d) ≡ first
    → is_overdue (time d.moments) (pending_at 1 d) ≡ second → is_overdue (time d.moments) (pending_at 2 d) ≡ third → forced d ≡ picked first second third
unfolding forced overdue least_from
forced_is d true second third a b c = rw a refl
forced_is d false true third a b c = rw (a, b) refl
forced_is d false false true a b c = rw (a, b, c) refl
forced_is d false false false a b c = rw (a, b, c) refl

runs : (d : World) (rank : ℕ) → is_overdue (time d.moments) (pending_at rank d) ≡ true → (node_at soak_settings rank d).on ≡ true
runs d rank over = (and_parts (node_at soak_settings rank d).on (nat_lt 500000 (99 * (time d.moments + 1 - (pending_at rank d).fed))) over).0

-- one event in place of another
pub along : (d : World) (event other : Event) → event ≡ other → refusal soak_settings soak_timing other d ≡ None → refusal soak_settings soak_timing event d ≡ None
along d event other same none = ap (λ e. refusal soak_settings soak_timing e d) same ∙ none

forced_allowed_at : (d : World) (first second third : Bool) → is_overdue (time d.moments) (pending_at 0 d) ≡ first
    → is_overdue (time d.moments) (pending_at 1 d) ≡ second → is_overdue (time d.moments) (pending_at 2 d) ≡ third
    → refusal soak_settings soak_timing (forced d) d ≡ None
forced_allowed_at d true second third a b c = along d (forced d) (Crash (record { 0 = 0 })) (forced_is d true second third a b c) (crash_allowed d 0 (runs d 0 a))
forced_allowed_at d false true third a b c = along d (forced d) (Crash (record { 0 = 1 })) (forced_is d false true third a b c) (crash_allowed d 1 (runs d 1 b))
forced_allowed_at d false false true a b c = along d (forced d) (Crash (record { 0 = 2 })) (forced_is d false false true a b c) (crash_allowed d 2 (runs d 2 c))
forced_allowed_at d false false false a b c = along d (forced d) moment (forced_is d false false false a b c) (moment_allowed d a b c)

-- a crash of an overdue node, or a moment that no node would outlive, is allowed
pub forced_allowed : (d : World) → refusal soak_settings soak_timing (forced d) d ≡ None
forced_allowed d =
    forced_allowed_at d (is_overdue (time d.moments) (pending_at 0 d)) (is_overdue (time d.moments) (pending_at 1 d)) (is_overdue (time d.moments) (pending_at 2 d)) refl refl refl

-- the refusal under equal settings and times
pub refused_as : {s : Settings} {t : Timing} {said : Option ℕ} (event : Event) (d : World) → s ≡ soak_settings → t ≡ soak_timing
    → refusal s t event d ≡ said → refusal soak_settings soak_timing event d ≡ said
refused_as event d settings times is = ap₂ (λ s t. refusal s t event d) (sym settings) (sym times) ∙ is

-- an event that is allowed stays
pub in_place_allowed : (event : Event) (d : World) → refusal soak_settings soak_timing event d ≡ None → event ≡ in_place d event
unfolding in_place
in_place_allowed event d none = rw none refl

-- in place of one that is refused
pub in_place_refused : (event other : Event) (d : World) (rule : ℕ) → refusal soak_settings soak_timing event d ≡ Some rule
    → other ≡ (if may_happen moment d then moment else forced d) → other ≡ in_place d event
unfolding in_place
in_place_refused event other d rule refused is = rw refused is

pub moment_stays : (d : World) → refusal soak_settings soak_timing moment d ≡ None → moment ≡ (if may_happen moment d then moment else forced d)
moment_stays d none = rw none refl

pub moment_refused : (d : World) (rule : ℕ) → refusal soak_settings soak_timing moment d ≡ Some rule → forced d ≡ (if may_happen moment d then moment else forced d)
moment_refused d rule refused = rw refused refl

-- the least overdue rank, by what is pending
abbrev pub least_of : Bool → Bool → Bool → Option ℕ
least_of true second third = Some 0
least_of false true third = Some 1
least_of false false true = Some 2
least_of false false false = None

overdue_is : (d : World) (first second third : Bool) → is_overdue (time d.moments) (pending_at 0 d) ≡ first
    → is_overdue (time d.moments) (pending_at 1 d) ≡ second → is_overdue (time d.moments) (pending_at 2 d) ≡ third → overdue d ≡ least_of first second third
unfolding overdue least_from
overdue_is d true second third a b c = rw a refl
overdue_is d false true third a b c = rw (a, b) refl
overdue_is d false false true a b c = rw (a, b, c) refl
overdue_is d false false false a b c = rw (a, b, c) refl

-- the test of a rank, by what is pending there
pub tested : {s : Settings} (d : World) (rank now : ℕ) (pending : Pending) (test said : Bool) → s ≡ soak_settings → now ≡ time d.moments → pending ≡ pending_of s rank d
    → test ≡ is_overdue now pending → test ≡ said → is_overdue (time d.moments) (pending_at rank d) ≡ said
tested d rank now pending test said settings now_is pending_is is said_is =
    sym (is ∙ ap₂ (λ n x. is_overdue n x) now_is (pending_as rank d pending settings pending_is)) ∙ said_is

-- the first test that holds tells the least overdue rank
pub first_over : (d : World) → is_overdue (time d.moments) (pending_at 0 d) ≡ true → Some 0 ≡ overdue d
first_over d a = sym (overdue_is d true (is_overdue (time d.moments) (pending_at 1 d)) (is_overdue (time d.moments) (pending_at 2 d)) a refl refl)

pub second_over : (d : World) → is_overdue (time d.moments) (pending_at 0 d) ≡ false → is_overdue (time d.moments) (pending_at 1 d) ≡ true → Some 1 ≡ overdue d
second_over d a b = sym (overdue_is d false true (is_overdue (time d.moments) (pending_at 2 d)) a b refl)

pub third_over : (d : World) → is_overdue (time d.moments) (pending_at 0 d) ≡ false → is_overdue (time d.moments) (pending_at 1 d) ≡ false
    → is_overdue (time d.moments) (pending_at 2 d) ≡ true → Some 2 ≡ overdue d
third_over d a b c = sym (overdue_is d false false true a b c)

pub none_over : (d : World) → is_overdue (time d.moments) (pending_at 0 d) ≡ false → is_overdue (time d.moments) (pending_at 1 d) ≡ false
    → is_overdue (time d.moments) (pending_at 2 d) ≡ false → None ≡ overdue d
none_over d a b c = sym (overdue_is d false false false a b c)

-- what the least overdue rank comes to
pub crash_forced : (d : World) (rank : Rank) → Some rank.0 ≡ overdue d → Crash rank ≡ forced d
unfolding forced
crash_forced d rank is = ap (λ o. option_map_or (λ r. Crash (record { 0 = r })) o moment) is

pub moment_forced : (d : World) (event : Event) → event ≡ moment → None ≡ overdue d → event ≡ forced d
unfolding forced
moment_forced d event event_is is = event_is ∙ ap (λ o. option_map_or (λ r. Crash (record { 0 = r })) o moment) is

-- the next event, by the candidate
pub next_is : (d : World) (old state : ℕ) (found event : Event) → undrawn found state ≡ candidate d old → event ≡ in_place d found → undrawn event state ≡ next_event d old
unfolding next_event
next_is d old state found event found_is event_is =
    ap (λ e. undrawn e state) event_is ∙ ap (λ c. undrawn (in_place d c.event) c.state) found_is

-- the candidate, by two draws
pub candidate_is : (d : World) (old first second one other state : ℕ) (event : Event) (choice : Choice) → first ≡ next_state old → one ≡ draw_at (next_state old)
    → second ≡ next_state first → other ≡ draw_at (next_state first) → choice ≡ choice_of (one % 16)
    → undrawn event state ≡ chosen_event d choice (record { 0 = other % 3 }) second → undrawn event state ≡ candidate d old
unfolding candidate
candidate_is d old first second one other state event choice first_is one_is second_is other_is choice_is is =
    let choice_at : choice ≡ choice_of (draw_at (next_state old) % 16) = choice_is ∙ ap (λ v. choice_of (v % 16)) one_is in
    let second_at : second ≡ next_state (next_state old) = second_is ∙ ap next_state first_is in
    let other_at : other ≡ draw_at (next_state (next_state old)) = other_is ∙ ap (λ x. draw_at (next_state x)) first_is in
    is ∙ ap (λ c. chosen_event d c (record { 0 = other % 3 }) second) choice_at
    ∙ ap₂ (λ v x. chosen_event d (choice_of (draw_at (next_state old) % 16)) (record { 0 = v % 3 }) x) other_at second_at

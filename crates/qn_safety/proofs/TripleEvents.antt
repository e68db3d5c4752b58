-- The events of the world of three images and the moments of its run: the moments obey the rules, and each of them comes of an
-- event.
use Rattle.std.proofs.Common.{◌≡◌, ℕ, ◌+◌, ◌<◌, ◌≤◌, Bool, true, List, [], ◌∷◌, length, Some, None, Option, refl, sym, ◌∙◌, subst, arith, ◌==◌, not, ◌⊎◌, inl, inr, nat_le}
use Rattle.std.specs.Option.{option_map_or}
use Rattle.std.specs.Prelude.{slice_get}
use Rattle.std.specs.List.{list_all}
use Rattle.std.proofs.lemmas.Bool.{cases_order, ltb-true, leb-true, not-true}
use Rattle.qn_base.specs.Members.{is_member}
use Rattle.qn_base.specs.lemmas.Options.{value_tested}
use Rattle.qn_base.specs.lemmas.Bools.{first_of_both, second_of_both}
use Rattle.qn_base.specs.lemmas.Ranges.{each_in_range}
use Rattle.qn_model.specs.declared.configuration.Settings.{Settings}
use Rattle.qn_model.specs.declared.times.Timing.{Timing}
use Rattle.qn_model.specs.declared.packets.Sent.{Sent}
use Rattle.qn_model.specs.declared.events.Event.TheVariants as event
use Rattle.qn_model.specs.declared.outputs.DiskOp.{DiskOp}
use Rattle.qn_model.specs.lemmas.Rules.{allowed, both_allowed}
use Rattle.qn_model.specs.Log.{incarnation}
use Rattle.qn_model.specs.Moments.{Before, Itself, Later, Moment, Adds, advance_of, time, node, packets}
use Rattle.qn_model.specs.World.{numbered}
use Rattle.qn_model.specs.Rules.{passes, is_well_formed, refusal, is_on, may_pass, may_be_stopped, may_deliver, may_feed, is_configured}
use Rattle.qn_model.specs.Steps.{happens, entry_of, step}
use Rattle.qn_safety.specs.declared.triple_event.TripleEvent.{TripleEvent}
use Rattle.qn_safety.specs.declared.triple_event.TripleEvent.TheVariants as triple
use Rattle.qn_safety.specs.Answers.{answer_answers}
use Rattle.qn_safety.specs.Timed.{IsUp, AllRuled, NoMoment, OneRuled, NumbersRise}
use Rattle.qn_safety.specs.TripleWorld.{TripleWorld, nodes_of, op_of, answer_of}
use Rattle.qn_safety.specs.TripleRules.{is_well_formed_triple, refusal_triple, may_be_done_triple}
use Rattle.qn_safety.specs.TripleSteps.{landed_on, failed_on, done_triple, lands_late_on, step_triple, run_triple, AllAllowedTriple}
use Rattle.qn_safety.specs.Earlier.{before_total}
use Rattle.qn_safety.proofs.Runs.{boots_le}
use Rattle.qn_safety.proofs.Seats.{running_allows}
use Rattle.qn_safety.specs.TripleNumbers.{AllMayTriple, is_ranked_triple}
use Rattle.qn_safety.proofs.Events.{newest_state, only_nothing, ranked_of, answer_unsent, packet_sent}
use Rattle.qn_safety.proofs.TripleSeats.{Effect, effect}
use Rattle.qn_safety.proofs.TripleRising.{Height, Growth, height_step, first_height, up_top}

-- events that are each allowed in their turn, newest first
pub data IsAllowed (s : Settings) (t : Timing) : List TripleEvent → Type 0 where
  NoEvent : IsAllowed s t []
  OneEvent : {e : TripleEvent} {earlier : List TripleEvent} → is_ranked_triple s e ≡ true → refusal_triple s t e (run_triple s t earlier) ≡ None → IsAllowed s t earlier → IsAllowed s t (e ∷ earlier)

-- a well formed event boots a configured node, where it boots one
ranked_of_triple : (s : Settings) (e : TripleEvent) → is_well_formed_triple s e ≡ true → is_ranked_triple s e ≡ true
unfolding is_well_formed_triple
ranked_of_triple s (triple.One event) form = ranked_of s event form
ranked_of_triple s (triple.LandOn rank image) form = refl
ranked_of_triple s (triple.FailOn rank image) form = refl
ranked_of_triple s (triple.LateOn rank image number) form = refl
ranked_of_triple s (triple.OperatorOn rank image message) form = refl

pub allowed_of : (s : Settings) (t : Timing) (events : List TripleEvent) → AllAllowedTriple s t events → IsAllowed s t events
unfolding AllAllowedTriple
allowed_of s t [] all = NoEvent
allowed_of s t (e ∷ earlier) all = OneEvent (ranked_of_triple s e all.0) all.1 (allowed_of s t earlier all.2)

pub may_of : (s : Settings) (t : Timing) (events : List TripleEvent) → AllMayTriple s t events → IsAllowed s t events
unfolding AllMayTriple
may_of s t [] all = NoEvent
may_of s t (e ∷ earlier) all = OneEvent all.0 all.1 (may_of s t earlier all.2)

pub allowed_before : {s : Settings} {t : Timing} {old new : List TripleEvent} → Before old new → IsAllowed s t new → IsAllowed s t old
allowed_before Itself allowed = allowed
allowed_before (Later newest more) (OneEvent form ok allowed) = allowed_before more allowed

-- each event that is allowed adds a moment that obeys the rules, or none
ruled_step : (s : Settings) (t : Timing) (e : TripleEvent) (w : TripleWorld) → is_ranked_triple s e ≡ true → refusal_triple s t e w ≡ None
    → AllRuled s t w.moments → AllRuled s t (step_triple s t e w).moments
unfolding refusal_triple step_triple refusal step
ruled_step s t (triple.One (event.Pass dt clocks)) w form ok ruled =
    let may = allowed (may_pass s t dt clocks (nodes_of w)) 1 ok in
    OneRuled (λ rank below. each_in_range (λ r. passes t dt (advance_of dt clocks r) (time w.moments) (node s r w.moments)) (length s.nodes) 0 rank
    (second_of_both (list_all (λ clock. is_on s clock.0.0 (nodes_of w)) clocks) _ may) (omega arith) (omega arith)) ruled
ruled_step s t (triple.One (event.Boot rank base)) w form ok ruled =
    OneRuled (not-true (is_on s rank.0 (nodes_of w)) (allowed (not (is_on s rank.0 (nodes_of w))) 2 ok), ltb-true rank.0 (length s.nodes) form) ruled
ruled_step s t (triple.One (event.BootClean rank base)) w form ok ruled =
    OneRuled (not-true (is_on s rank.0 (nodes_of w)) (allowed (not (is_on s rank.0 (nodes_of w))) 2 ok), ltb-true rank.0 (length s.nodes) form) ruled
ruled_step s t (triple.One (event.Crash rank)) w form ok ruled = OneRuled (running_allows (is_on s rank.0 (nodes_of w)) 3 ok) ruled
ruled_step s t (triple.One (event.Land rank)) w form ok ruled = ruled
ruled_step s t (triple.One (event.Fail rank)) w form ok ruled = ruled
ruled_step s t (triple.One (event.Late rank number)) w form ok ruled = ruled
ruled_step s t (triple.One (event.Operator rank message)) w form ok ruled = ruled
ruled_step s t (triple.One (event.Done rank)) w form ok ruled = by_op (op_of s rank.0 w)
  where
    by_op : (o : Option DiskOp) → AllRuled s t (option_map_or (λ op. done_triple rank.0 op w) o w).moments
    by_op None = ruled
    by_op (Some op) =
        OneRuled (
          (both_allowed (is_on s rank.0 (nodes_of w)) (may_be_done_triple s rank.0 w) 3 5 ok).0,
          answer_unsent s rank.0 (Some op) (answer_of op (w.parts rank.0) (w.good rank.0)) w.moments (answer_answers op (w.parts rank.0) (w.good rank.0)),
        ) ruled
ruled_step s t (triple.One (event.View rank view)) w form ok ruled = OneRuled ((both_allowed (is_on s rank.0 (nodes_of w)) (is_member view.members rank.0) 3 7 ok).0, tt) ruled
ruled_step s t (triple.One (event.Deliver rank number)) w form ok ruled =
    let rules = both_allowed (is_on s rank.0 (nodes_of w)) (may_deliver s rank.0 number (nodes_of w)) 3 8 ok in
    let sent = value_tested (λ (x : Sent). x.to.0 == rank.0) (slice_get (packets s w.moments) number) rules.1 in
    subst (λ o. AllRuled s t (option_map_or (λ x. happens (Adds rank.0 (entry_of x.packet)) (nodes_of w)) o (nodes_of w)).moments) (sym sent.1)
    (OneRuled (rules.0, packet_sent s rank.0 number sent.0 w.moments sent.1 sent.2) ruled)
ruled_step s t (triple.One (event.Device rank agrees)) w form ok ruled = OneRuled (running_allows (is_on s rank.0 (nodes_of w)) 3 ok, tt) ruled
ruled_step s t (triple.One (event.Tick rank)) w form ok ruled = OneRuled (running_allows (is_on s rank.0 (nodes_of w)) 3 ok, tt) ruled
ruled_step s t (triple.One (event.Stopped rank)) w form ok ruled = OneRuled ((both_allowed (is_on s rank.0 (nodes_of w)) (may_be_stopped s rank.0 (nodes_of w)) 3 5 ok).0, tt) ruled
ruled_step s t (triple.One (event.Unstopped rank)) w form ok ruled = OneRuled ((both_allowed (is_on s rank.0 (nodes_of w)) (may_be_stopped s rank.0 (nodes_of w)) 3 5 ok).0, tt) ruled
ruled_step s t (triple.One (event.Leave rank)) w form ok ruled = OneRuled (running_allows (is_on s rank.0 (nodes_of w)) 3 ok, tt) ruled
ruled_step s t (triple.One (event.Feed rank)) w form ok ruled =
    let rules = both_allowed (is_on s rank.0 (nodes_of w)) (may_feed s t rank.0 (nodes_of w)) 3 9 ok in
    let fed = value_tested (λ decided. nat_le (time w.moments) (decided + t.feed_delay)) (node s rank.0 w.moments).decided rules.1 in
    OneRuled (record { on = rules.0; at = fed.0; decided = fed.1; in_time = leb-true (time w.moments) (fed.0 + t.feed_delay) fed.2 }) ruled
ruled_step s t (triple.LandOn rank k) w form ok ruled = by_op (op_of s rank.0 w)
  where
    by_op : (o : Option DiskOp) → AllRuled s t (option_map_or (λ op. landed_on s t rank.0 k op w) o w).moments
    by_op None = ruled
    by_op (Some op) = ruled
ruled_step s t (triple.FailOn rank k) w form ok ruled = by_op (op_of s rank.0 w)
  where
    by_op : (o : Option DiskOp) → AllRuled s t (option_map_or (λ op. failed_on rank.0 k op w) o w).moments
    by_op None = ruled
    by_op (Some op) = ruled
ruled_step s t (triple.LateOn rank k number) w form ok ruled = by_op (numbered (w.left rank.0 k) number)
  where
    by_op : (o : Option DiskOp) → AllRuled s t (option_map_or (λ op. lands_late_on rank.0 k number op w) o w).moments
    by_op None = ruled
    by_op (Some op) = ruled
ruled_step s t (triple.OperatorOn rank k message) w form ok ruled = ruled

-- an event adds one moment or none
growth_step : (s : Settings) (t : Timing) (e : TripleEvent) (w : TripleWorld) → Growth w.moments (step_triple s t e w).moments
unfolding step_triple step
growth_step s t (triple.One (event.Pass dt clocks)) w = inr (_, refl)
growth_step s t (triple.One (event.Boot rank base)) w = inr (_, refl)
growth_step s t (triple.One (event.BootClean rank base)) w = inr (_, refl)
growth_step s t (triple.One (event.Crash rank)) w = inr (_, refl)
growth_step s t (triple.One (event.Land rank)) w = inl refl
growth_step s t (triple.One (event.Fail rank)) w = inl refl
growth_step s t (triple.One (event.Late rank number)) w = inl refl
growth_step s t (triple.One (event.Operator rank message)) w = inl refl
growth_step s t (triple.One (event.Done rank)) w = by_op (op_of s rank.0 w)
  where
    by_op : (o : Option DiskOp) → Growth w.moments (option_map_or (λ op. done_triple rank.0 op w) o w).moments
    by_op None = inl refl
    by_op (Some op) = inr (_, refl)
growth_step s t (triple.One (event.View rank view)) w = inr (_, refl)
growth_step s t (triple.One (event.Deliver rank number)) w = by_sent (slice_get (packets s w.moments) number)
  where
    by_sent : (o : Option Sent) → Growth w.moments (option_map_or (λ x. happens (Adds rank.0 (entry_of x.packet)) (nodes_of w)) o (nodes_of w)).moments
    by_sent None = inl refl
    by_sent (Some sent) = inr (_, refl)
growth_step s t (triple.One (event.Device rank agrees)) w = inr (_, refl)
growth_step s t (triple.One (event.Tick rank)) w = inr (_, refl)
growth_step s t (triple.One (event.Stopped rank)) w = inr (_, refl)
growth_step s t (triple.One (event.Unstopped rank)) w = inr (_, refl)
growth_step s t (triple.One (event.Leave rank)) w = inr (_, refl)
growth_step s t (triple.One (event.Feed rank)) w = inr (_, refl)
growth_step s t (triple.LandOn rank k) w = by_op (op_of s rank.0 w)
  where
    by_op : (o : Option DiskOp) → Growth w.moments (option_map_or (λ op. landed_on s t rank.0 k op w) o w).moments
    by_op None = inl refl
    by_op (Some op) = inl refl
growth_step s t (triple.FailOn rank k) w = by_op (op_of s rank.0 w)
  where
    by_op : (o : Option DiskOp) → Growth w.moments (option_map_or (λ op. failed_on rank.0 k op w) o w).moments
    by_op None = inl refl
    by_op (Some op) = inl refl
growth_step s t (triple.LateOn rank k number) w = by_op (numbered (w.left rank.0 k) number)
  where
    by_op : (o : Option DiskOp) → Growth w.moments (option_map_or (λ op. lands_late_on rank.0 k number op w) o w).moments
    by_op None = inl refl
    by_op (Some op) = inl refl
growth_step s t (triple.OperatorOn rank k message) w = inl refl

-- the rules hold of the moments of a run, and each node keeps its number
pub record Stage (s : Settings) (t : Timing) (events : List TripleEvent) : Type 0 where
  pub ruled : AllRuled s t (run_triple s t events).moments
  pub height : (j : ℕ) → Height s t j (run_triple s t events)

stage_step : (s : Settings) (t : Timing) (e : TripleEvent) (w w' : TripleWorld) → w' ≡ step_triple s t e w → is_ranked_triple s e ≡ true → refusal_triple s t e w ≡ None → AllRuled s t w.moments
    → ((j : ℕ) → Height s t j w) → (AllRuled s t w'.moments) × ((j : ℕ) → Height s t j w')
stage_step s t e w w' same form ok ruled height =
    let ruled' : AllRuled s t (step_triple s t e w).moments = ruled_step s t e w form ok ruled in
    subst (λ v. (AllRuled s t v.moments) × ((j : ℕ) → Height s t j v)) (sym same)
    (ruled', λ j. height_step j w (step_triple s t e w) ruled ruled' (growth_step s t e w) (effect s t j e w ok) (height j))

pub run_step : (s : Settings) (t : Timing) (e : TripleEvent) (earlier : List TripleEvent) → run_triple s t (e ∷ earlier) ≡ step_triple s t e (run_triple s t earlier)
unfolding run_triple
run_step s t e earlier = refl

first_stage : (s : Settings) (t : Timing) → Stage s t []
unfolding run_triple
first_stage s t = record { ruled = NoMoment; height = λ j. first_height s t j }

pub stage : {s : Settings} {t : Timing} {events : List TripleEvent} → IsAllowed s t events → Stage s t events
stage {s = s} {t = t} NoEvent = first_stage s t
stage {s = s} {t = t} (OneEvent {e = e} {earlier = earlier} form ok allowed) =
    let was = stage allowed in
    let now = stage_step s t e (run_triple s t earlier) (run_triple s t (e ∷ earlier)) (run_step s t e earlier) form ok was.ruled was.height in
    record { ruled = now.0; height = now.1 }

-- what the newest event is to the seat of a node
pub effect_at : {s : Settings} {t : Timing} {e : TripleEvent} {earlier : List TripleEvent} (j : ℕ) → IsAllowed s t (e ∷ earlier) → Effect s t j (run_triple s t earlier) (run_triple s t (e ∷ earlier))
effect_at {s = s} {t = t} {e = e} {earlier = earlier} j (OneEvent form ok allowed) =
    subst (λ w'. Effect s t j (run_triple s t earlier) w') (sym (run_step s t e earlier)) (effect s t j e (run_triple s t earlier) ok)

pub earlier_allowed : {s : Settings} {t : Timing} {e : TripleEvent} {earlier : List TripleEvent} → IsAllowed s t (e ∷ earlier) → IsAllowed s t earlier
earlier_allowed (OneEvent form ok allowed) = allowed

pub newest_allowed : {s : Settings} {t : Timing} {e : TripleEvent} {earlier : List TripleEvent} → IsAllowed s t (e ∷ earlier) → refusal_triple s t e (run_triple s t earlier) ≡ None
newest_allowed (OneEvent form ok allowed) = ok

pub grows : (s : Settings) (t : Timing) (e : TripleEvent) (earlier : List TripleEvent) → Growth (run_triple s t earlier).moments (run_triple s t (e ∷ earlier)).moments
unfolding run_triple
grows s t e earlier = growth_step s t e (run_triple s t earlier)

pub moments_grow : (s : Settings) (t : Timing) {old new : List TripleEvent} → Before old new → Before (run_triple s t old).moments (run_triple s t new).moments
moments_grow s t Itself = Itself
moments_grow s t {old = old} (Later newest {new = new} more) = by_growth (grows s t newest new) (moments_grow s t more)
  where
    by_growth : ((run_triple s t (newest ∷ new)).moments ≡ (run_triple s t new).moments) ⊎ ((m : Moment) × ((run_triple s t (newest ∷ new)).moments ≡ m ∷ (run_triple s t new).moments))
        → Before (run_triple s t old).moments (run_triple s t new).moments → Before (run_triple s t old).moments (run_triple s t (newest ∷ new)).moments
    by_growth (inl same) rest = subst (λ ms. Before (run_triple s t old).moments ms) (sym same) rest
    by_growth (inr more') rest = subst (λ ms. Before (run_triple s t old).moments ms) (sym more'.1) (Later more'.0 rest)

-- each moment of a run is that of some of its events
pub record AtEvents (s : Settings) (t : Timing) (p : List Moment) (events : List TripleEvent) : Type 0 where
  pub at : List TripleEvent
  pub back : Before at events
  pub same : (run_triple s t at).moments ≡ p

at_later : {s : Settings} {t : Timing} {p : List Moment} {events : List TripleEvent} (e : TripleEvent) → AtEvents s t p events → AtEvents s t p (e ∷ events)
at_later e it = record { at = it.at; back = Later e it.back; same = it.same }

pub first_moments : (s : Settings) (t : Timing) → (run_triple s t []).moments ≡ []
unfolding run_triple
first_moments s t = refl

pub at_events : (s : Settings) (t : Timing) (p : List Moment) (events : List TripleEvent) → Before p (run_triple s t events).moments → AtEvents s t p events
at_events s t p [] back = record { at = []; back = Itself; same = first_moments s t ∙ sym (only_nothing (subst (λ ms. Before p ms) (first_moments s t) back)) }
at_events s t p (e ∷ earlier) back = by_growth (grows s t e earlier) (λ more. at_events s t p earlier more)
  where
    by_newest : (m : Moment) → (run_triple s t (e ∷ earlier)).moments ≡ m ∷ (run_triple s t earlier).moments → (p ≡ m ∷ (run_triple s t earlier).moments) ⊎ Before p (run_triple s t earlier).moments
        → (Before p (run_triple s t earlier).moments → AtEvents s t p earlier) → AtEvents s t p (e ∷ earlier)
    by_newest m added (inl same) rest = record { at = e ∷ earlier; back = Itself; same = added ∙ sym same }
    by_newest m added (inr more) rest = at_later e (rest more)

    by_growth : ((run_triple s t (e ∷ earlier)).moments ≡ (run_triple s t earlier).moments) ⊎ ((m : Moment) × ((run_triple s t (e ∷ earlier)).moments ≡ m ∷ (run_triple s t earlier).moments))
        → (Before p (run_triple s t earlier).moments → AtEvents s t p earlier) → AtEvents s t p (e ∷ earlier)
    by_growth (inl same) rest = at_later e (rest (subst (λ ms. Before p ms) same back))
    by_growth (inr more) rest = by_newest more.0 more.1 (newest_state (subst (λ ms. Before p ms) more.1 back)) rest

-- the numbers of the incarnations of one node that come up rise strictly
pub numbers_rise : {s : Settings} {t : Timing} {events : List TripleEvent} → IsAllowed s t events → NumbersRise s (run_triple s t events).moments
numbers_rise {s = s} {t = t} {events = events} allowed j number later_number first second first_back second_back first_up second_up less first_has second_has =
    let here = stage (allowed_before at.back allowed) in
    let now_up = subst (λ ms. IsUp s j ms) (sym at.same) second_up in
    let top = up_top (run_triple s t at.at) here.ruled (here.height j).held now_up later_number (subst (λ ms. incarnation (node s j ms).log ≡ Some later_number) (sym at.same) second_has) in
    let below = (here.height j).fresh now_up number first before_at first_up (subst (λ ms. (node s j first).boots < (node s j ms).boots) (sym at.same) less) first_has in
    omega arith
  where
    at : AtEvents s t second events
    at = at_events s t second events second_back

    before_at : Before first (run_triple s t at.at).moments
    before_at = subst (λ ms. Before first ms) (sym at.same) (by_order (before_total first_back second_back))
      where
        by_order : Before first second ⊎ Before second first → Before first second
        by_order (inl order) = order
        by_order (inr other) = absurd (let q = boots_le s j other in omega arith)

-- The events of the world and the moments of its run: the moments obey the rules, and each of them comes of an event.
use Rattle.std.proofs.Common.{◌≡◌, ℕ, ◌+◌, ◌<◌, ◌≤◌, Bool, true, List, [], ◌∷◌, length, Some, None, Option, refl, sym, ◌∙◌, subst, arith, ◌==◌, not, ◌⊎◌, inl, inr, nat_le}
use Rattle.std.specs.Option.{option_map_or}
use Rattle.std.proofs.lemmas.Bool.{cases_order, eqb-true, ltb-true, leb-true, not-true}
use Rattle.qn_base.specs.Members.{is_member}
use Rattle.qn_model.specs.declared.configuration.Settings.{Settings}
use Rattle.qn_model.specs.declared.times.Timing.{Timing}
use Rattle.qn_model.specs.declared.packets.Packet.{Packet}
use Rattle.qn_model.specs.declared.packets.Packet.TheVariants as packet
use Rattle.qn_model.specs.declared.entries.What.{What}
use Rattle.qn_model.specs.declared.entries.What.TheVariants as what
use Rattle.qn_model.specs.declared.outputs.DiskOp.{DiskOp}
use Rattle.qn_model.specs.NodeVotes.{view}
use Rattle.qn_model.specs.Fitting.{answers_op}
use Rattle.qn_model.specs.Moments.{Before, Itself, Later}
use Rattle.qn_model.specs.declared.packets.Sent.{Sent}
use Rattle.qn_model.specs.Moments.{Moment, Adds, advance_of, time, node, packets}
use Rattle.qn_model.specs.Rules.{passes}
use Rattle.qn_safety.specs.Timed.{WasSent, AllRuled, NoMoment, OneRuled}
use Rattle.qn_model.specs.declared.events.Event.{Event}
use Rattle.qn_model.specs.declared.events.Event.TheVariants as event
use Rattle.qn_model.specs.World.{World, op_at, failed, numbered}
use Rattle.qn_model.specs.Rules.{is_well_formed, refusal, is_on, may_pass, may_be_done, may_fail, may_be_stopped, may_deliver, may_feed, is_configured}
use Rattle.qn_model.specs.Steps.{happens, landed, answered, fails, lands_late, entry_of, step, run}
use Rattle.std.specs.Prelude.{slice_get}
use Rattle.std.specs.List.{list_all}
use Rattle.qn_base.specs.lemmas.Ranges.{each_in_range}
use Rattle.qn_base.specs.lemmas.Options.{value_tested}
use Rattle.qn_base.specs.lemmas.Bools.{never_both, first_of_both, second_of_both}
use Rattle.qn_model.specs.lemmas.Rules.{allowed, both_allowed}
use Rattle.qn_model.specs.lemmas.Entries.{failed_answers}
use Rattle.qn_model.specs.Steps.{AllAllowed}
use Rattle.qn_safety.specs.AnyNumbers.{AllMay, is_ranked}
use Rattle.qn_safety.proofs.Outs.{plain_no_answer}
use Rattle.qn_safety.proofs.Runs.{sound}
use Rattle.qn_safety.proofs.Seats.{seat_of, Effect, effect, running_allows}
use Rattle.qn_safety.proofs.Held.{Held, held_effect, first_held}

-- events that are each allowed in their turn, newest first
pub data IsAllowed (s : Settings) (t : Timing) : List Event → Type 0 where
  NoEvent : IsAllowed s t []
  OneEvent : {e : Event} {earlier : List Event} → is_ranked s e ≡ true → refusal s t e (run s t earlier) ≡ None → IsAllowed s t earlier → IsAllowed s t (e ∷ earlier)

-- a well formed event boots a configured node, where it boots one
pub ranked_of : (s : Settings) (e : Event) → is_well_formed s e ≡ true → is_ranked s e ≡ true
unfolding is_well_formed
ranked_of s (event.Boot rank base) form = first_of_both (is_configured s rank.0) (nat_le base 1000000000000000) form
ranked_of s (event.BootClean rank base) form = first_of_both (is_configured s rank.0) (nat_le base 1000000000000000) form
ranked_of s (event.Pass dt clocks) form = refl
ranked_of s (event.Crash rank) form = refl
ranked_of s (event.Land rank) form = refl
ranked_of s (event.Done rank) form = refl
ranked_of s (event.Fail rank) form = refl
ranked_of s (event.Late rank number) form = refl
ranked_of s (event.View rank view) form = refl
ranked_of s (event.Deliver rank number) form = refl
ranked_of s (event.Device rank agrees) form = refl
ranked_of s (event.Tick rank) form = refl
ranked_of s (event.Stopped rank) form = refl
ranked_of s (event.Unstopped rank) form = refl
ranked_of s (event.Leave rank) form = refl
ranked_of s (event.Feed rank) form = refl
ranked_of s (event.Operator rank message) form = refl

pub allowed_of : (s : Settings) (t : Timing) (events : List Event) → AllAllowed s t events → IsAllowed s t events
unfolding AllAllowed
allowed_of s t [] all = NoEvent
allowed_of s t (e ∷ earlier) all = OneEvent (ranked_of s e all.0) all.1 (allowed_of s t earlier all.2)

pub may_of : (s : Settings) (t : Timing) (events : List Event) → AllMay s t events → IsAllowed s t events
unfolding AllMay
may_of s t [] all = NoEvent
may_of s t (e ∷ earlier) all = OneEvent all.0 all.1 (may_of s t earlier all.2)

pub allowed_before : {s : Settings} {t : Timing} {old new : List Event} → Before old new → IsAllowed s t new → IsAllowed s t old
allowed_before Itself allowed = allowed
allowed_before (Later newest more) (OneEvent form ok allowed) = allowed_before more allowed

-- an answer of the disk is no packet
pub answer_unsent : (s : Settings) (r : ℕ) (op : Option DiskOp) (entry : What) (ms : List Moment) → answers_op op entry ≡ true → WasSent s r entry ms
answer_unsent s r op (what.Ask ask) ms e = never_both (answers_op op (what.Ask ask)) e (plain_no_answer op (what.Ask ask) refl)
answer_unsent s r op (what.Tell tell) ms e = never_both (answers_op op (what.Tell tell)) e (plain_no_answer op (what.Tell tell) refl)
answer_unsent s r op what.Begin ms e = tt
answer_unsent s r op what.BeginClean ms e = tt
answer_unsent s r op (what.Header seen) ms e = tt
answer_unsent s r op (what.SlotRead other seen) ms e = tt
answer_unsent s r op (what.MailChecked seen) ms e = tt
answer_unsent s r op (what.Claimed ok) ms e = tt
answer_unsent s r op (what.Cleared ok) ms e = tt
answer_unsent s r op (what.MailRead seen) ms e = tt
answer_unsent s r op (what.MailWritten other ok) ms e = tt
answer_unsent s r op (what.View installed) ms e = tt
answer_unsent s r op (what.Device agrees) ms e = tt
answer_unsent s r op what.Tick ms e = tt
answer_unsent s r op (what.Stopped ok) ms e = tt
answer_unsent s r op what.Leave ms e = tt
answer_unsent s r op (what.Closed ok) ms e = tt

-- a packet that is delivered was sent
pub packet_sent : (s : Settings) (r number : ℕ) (sent : Sent) (ms : List Moment) → slice_get (packets s ms) number ≡ Some sent → (sent.to.0 == r) ≡ true → WasSent s r (entry_of sent.packet) ms
packet_sent s r number sent ms there receiver = by_content sent.packet refl
  where
    by_content : (content : Packet) → sent.packet ≡ content → WasSent s r (entry_of content) ms
    by_content (packet.Ask ask) e = record { number = number; sent = sent; there = there; receiver = eqb-true sent.to.0 r receiver; content = e }
    by_content (packet.Tell tell) e = record { number = number; sent = sent; there = there; receiver = eqb-true sent.to.0 r receiver; content = e }
    by_content (packet.Hello from) e = tt
    by_content (packet.Heard from said standing) e = tt
    by_content (packet.Announce from seen) e = tt
    by_content (packet.Vote agrees) e = tt

-- each event that is allowed adds a moment that obeys the rules, or none
ruled_step : (s : Settings) (t : Timing) (e : Event) (w : World) → is_ranked s e ≡ true → refusal s t e w ≡ None → ((j : ℕ) → Held s (seat_of s j w))
    → AllRuled s t w.moments → AllRuled s t (step s t e w).moments
unfolding refusal step
ruled_step s t (event.Pass dt clocks) w form ok held ruled =
    let may = allowed (may_pass s t dt clocks w) 1 ok in
    OneRuled (λ rank below. each_in_range (λ r. passes t dt (advance_of dt clocks r) (time w.moments) (node s r w.moments)) (length s.nodes) 0 rank
    (second_of_both (list_all (λ clock. is_on s clock.0.0 w) clocks) _ may) (omega arith) (omega arith)) ruled
ruled_step s t (event.Boot rank base) w form ok held ruled =
    OneRuled (not-true (is_on s rank.0 w) (allowed (not (is_on s rank.0 w)) 2 ok), ltb-true rank.0 (length s.nodes) form) ruled
ruled_step s t (event.BootClean rank base) w form ok held ruled =
    OneRuled (not-true (is_on s rank.0 w) (allowed (not (is_on s rank.0 w)) 2 ok), ltb-true rank.0 (length s.nodes) form) ruled
ruled_step s t (event.Crash rank) w form ok held ruled = OneRuled (running_allows (is_on s rank.0 w) 3 ok) ruled
ruled_step s t (event.Land rank) w form ok held ruled = by_op (op_at s rank.0 w)
  where
    by_op : (o : Option DiskOp) → AllRuled s t (option_map_or (λ op. landed s t rank.0 op w) o w).moments
    by_op None = ruled
    by_op (Some op) = ruled
ruled_step s t (event.Done rank) w form ok held ruled = by_took (w.took rank.0) refl
  where
    on : is_on s rank.0 w ≡ true
    on = (both_allowed (is_on s rank.0 w) (may_be_done s rank.0 w) 3 5 ok).0

    by_took : (o : Option What) → w.took rank.0 ≡ o → AllRuled s t (option_map_or (λ entry. answered rank.0 entry w) o w).moments
    by_took None e = ruled
    by_took (Some entry) e = OneRuled (on, answer_unsent s rank.0 (op_at s rank.0 w) entry w.moments ((held rank.0).answers on entry e)) ruled
ruled_step s t (event.Fail rank) w form ok held ruled = by_op (op_at s rank.0 w)
  where
    by_op : (o : Option DiskOp) → AllRuled s t (option_map_or (λ op. fails s rank.0 op w) o w).moments
    by_op None = ruled
    by_op (Some op) = OneRuled ((both_allowed (is_on s rank.0 w) (may_fail s rank.0 w) 3 5 ok).0, answer_unsent s rank.0 (Some op) (failed op) w.moments (failed_answers op)) ruled
ruled_step s t (event.Late rank number) w form ok held ruled = by_op (numbered (w.left rank.0) number)
  where
    by_op : (o : Option DiskOp) → AllRuled s t (option_map_or (λ op. lands_late rank.0 number op w) o w).moments
    by_op None = ruled
    by_op (Some op) = ruled
ruled_step s t (event.View rank view) w form ok held ruled = OneRuled ((both_allowed (is_on s rank.0 w) (is_member view.members rank.0) 3 7 ok).0, tt) ruled
ruled_step s t (event.Deliver rank number) w form ok held ruled =
    let rules = both_allowed (is_on s rank.0 w) (may_deliver s rank.0 number w) 3 8 ok in
    let sent = value_tested (λ (x : Sent). x.to.0 == rank.0) (slice_get (packets s w.moments) number) rules.1 in
    subst (λ o. AllRuled s t (option_map_or (λ x. happens (Adds rank.0 (entry_of x.packet)) w) o w).moments) (sym sent.1)
    (OneRuled (rules.0, packet_sent s rank.0 number sent.0 w.moments sent.1 sent.2) ruled)
ruled_step s t (event.Device rank agrees) w form ok held ruled = OneRuled (running_allows (is_on s rank.0 w) 3 ok, tt) ruled
ruled_step s t (event.Tick rank) w form ok held ruled = OneRuled (running_allows (is_on s rank.0 w) 3 ok, tt) ruled
ruled_step s t (event.Stopped rank) w form ok held ruled = OneRuled ((both_allowed (is_on s rank.0 w) (may_be_stopped s rank.0 w) 3 5 ok).0, tt) ruled
ruled_step s t (event.Unstopped rank) w form ok held ruled = OneRuled ((both_allowed (is_on s rank.0 w) (may_be_stopped s rank.0 w) 3 5 ok).0, tt) ruled
ruled_step s t (event.Leave rank) w form ok held ruled = OneRuled (running_allows (is_on s rank.0 w) 3 ok, tt) ruled
ruled_step s t (event.Feed rank) w form ok held ruled =
    let rules = both_allowed (is_on s rank.0 w) (may_feed s t rank.0 w) 3 9 ok in
    let fed = value_tested (λ decided. nat_le (time w.moments) (decided + t.feed_delay)) (node s rank.0 w.moments).decided rules.1 in
    OneRuled (record { on = rules.0; at = fed.0; decided = fed.1; in_time = leb-true (time w.moments) (fed.0 + t.feed_delay) fed.2 }) ruled
ruled_step s t (event.Operator rank message) w form ok held ruled = ruled

-- the rules hold of the moments of a run, and each seat is held
pub record Stage (s : Settings) (t : Timing) (events : List Event) : Type 0 where
  pub ruled : AllRuled s t (run s t events).moments
  pub held : (j : ℕ) → Held s (seat_of s j (run s t events))

stage_step : (s : Settings) (t : Timing) (e : Event) (w w' : World) → w' ≡ step s t e w → is_ranked s e ≡ true → refusal s t e w ≡ None → AllRuled s t w.moments → ((j : ℕ) → Held s (seat_of s j w))
    → (AllRuled s t w'.moments) × ((j : ℕ) → Held s (seat_of s j w'))
stage_step s t e w w' same form ok ruled held =
    let ruled' : AllRuled s t (step s t e w).moments = ruled_step s t e w form ok held ruled in
    subst (λ v. (AllRuled s t v.moments) × ((j : ℕ) → Held s (seat_of s j v))) (sym same)
    (ruled', λ j. held_effect s t j w (step s t e w) (effect s t j e w ok) ((sound ruled j).made) ((sound ruled' j).made) (held j))

pub run_step : (s : Settings) (t : Timing) (e : Event) (earlier : List Event) → run s t (e ∷ earlier) ≡ step s t e (run s t earlier)
unfolding run
run_step s t e earlier = refl

first_stage : (s : Settings) (t : Timing) → Stage s t []
unfolding run
first_stage s t = record { ruled = NoMoment; held = first_held s }

pub stage : {s : Settings} {t : Timing} {events : List Event} → IsAllowed s t events → Stage s t events
stage {s = s} {t = t} NoEvent = first_stage s t
stage {s = s} {t = t} (OneEvent {e = e} {earlier = earlier} form ok allowed) =
    let was = stage allowed in
    let now = stage_step s t e (run s t earlier) (run s t (e ∷ earlier)) (run_step s t e earlier) form ok was.ruled was.held in
    record { ruled = now.0; held = now.1 }

-- what the newest event is to the seat of a node
pub effect_at : {s : Settings} {t : Timing} {e : Event} {earlier : List Event} (j : ℕ) → IsAllowed s t (e ∷ earlier) → Effect s t j (run s t earlier) (run s t (e ∷ earlier))
effect_at {s = s} {t = t} {e = e} {earlier = earlier} j (OneEvent form ok allowed) =
    subst (λ w'. Effect s t j (run s t earlier) w') (sym (run_step s t e earlier)) (effect s t j e (run s t earlier) ok)

pub earlier_allowed : {s : Settings} {t : Timing} {e : Event} {earlier : List Event} → IsAllowed s t (e ∷ earlier) → IsAllowed s t earlier
earlier_allowed (OneEvent form ok allowed) = allowed

pub newest_allowed : {s : Settings} {t : Timing} {e : Event} {earlier : List Event} → IsAllowed s t (e ∷ earlier) → refusal s t e (run s t earlier) ≡ None
newest_allowed (OneEvent form ok allowed) = ok

-- an event adds one moment or none
pub Grows : List Moment → List Moment → Type 0
Grows ms ms' = (ms' ≡ ms) ⊎ ((m : Moment) × (ms' ≡ m ∷ ms))

grows_step : (s : Settings) (t : Timing) (e : Event) (w : World) → Grows w.moments (step s t e w).moments
unfolding step Grows
grows_step s t (event.Pass dt clocks) w = inr (_, refl)
grows_step s t (event.Boot rank base) w = inr (_, refl)
grows_step s t (event.BootClean rank base) w = inr (_, refl)
grows_step s t (event.Crash rank) w = inr (_, refl)
grows_step s t (event.Land rank) w = by_op (op_at s rank.0 w)
  where
    by_op : (o : Option DiskOp) → Grows w.moments (option_map_or (λ op. landed s t rank.0 op w) o w).moments
    by_op None = inl refl
    by_op (Some op) = inl refl
grows_step s t (event.Done rank) w = by_took (w.took rank.0)
  where
    by_took : (o : Option What) → Grows w.moments (option_map_or (λ entry. answered rank.0 entry w) o w).moments
    by_took None = inl refl
    by_took (Some entry) = inr (_, refl)
grows_step s t (event.Fail rank) w = by_op (op_at s rank.0 w)
  where
    by_op : (o : Option DiskOp) → Grows w.moments (option_map_or (λ op. fails s rank.0 op w) o w).moments
    by_op None = inl refl
    by_op (Some op) = inr (_, refl)
grows_step s t (event.Late rank number) w = by_op (numbered (w.left rank.0) number)
  where
    by_op : (o : Option DiskOp) → Grows w.moments (option_map_or (λ op. lands_late rank.0 number op w) o w).moments
    by_op None = inl refl
    by_op (Some op) = inl refl
grows_step s t (event.View rank view) w = inr (_, refl)
grows_step s t (event.Deliver rank number) w = by_sent (slice_get (packets s w.moments) number)
  where
    by_sent : (o : Option Sent) → Grows w.moments (option_map_or (λ x. happens (Adds rank.0 (entry_of x.packet)) w) o w).moments
    by_sent None = inl refl
    by_sent (Some sent) = inr (_, refl)
grows_step s t (event.Device rank agrees) w = inr (_, refl)
grows_step s t (event.Tick rank) w = inr (_, refl)
grows_step s t (event.Stopped rank) w = inr (_, refl)
grows_step s t (event.Unstopped rank) w = inr (_, refl)
grows_step s t (event.Leave rank) w = inr (_, refl)
grows_step s t (event.Feed rank) w = inr (_, refl)
grows_step s t (event.Operator rank message) w = inl refl

pub grows : (s : Settings) (t : Timing) (e : Event) (earlier : List Event)
    → ((run s t (e ∷ earlier)).moments ≡ (run s t earlier).moments) ⊎ ((m : Moment) × ((run s t (e ∷ earlier)).moments ≡ m ∷ (run s t earlier).moments))
unfolding run Grows
grows s t e earlier = grows_step s t e (run s t earlier)

pub moments_grow : (s : Settings) (t : Timing) {old new : List Event} → Before old new → Before (run s t old).moments (run s t new).moments
moments_grow s t Itself = Itself
moments_grow s t {old = old} (Later newest {new = new} more) = by_growth (grows s t newest new) (moments_grow s t more)
  where
    by_growth : ((run s t (newest ∷ new)).moments ≡ (run s t new).moments) ⊎ ((m : Moment) × ((run s t (newest ∷ new)).moments ≡ m ∷ (run s t new).moments))
        → Before (run s t old).moments (run s t new).moments → Before (run s t old).moments (run s t (newest ∷ new)).moments
    by_growth (inl same) rest = subst (λ ms. Before (run s t old).moments ms) (sym same) rest
    by_growth (inr more') rest = subst (λ ms. Before (run s t old).moments ms) (sym more'.1) (Later more'.0 rest)

-- each moment of a run is that of some of its events
pub record AtEvents (s : Settings) (t : Timing) (p : List Moment) (events : List Event) : Type 0 where
  pub at : List Event
  pub back : Before at events
  pub same : (run s t at).moments ≡ p

at_later : {s : Settings} {t : Timing} {p : List Moment} {events : List Event} (e : Event) → AtEvents s t p events → AtEvents s t p (e ∷ events)
at_later e it = record { at = it.at; back = Later e it.back; same = it.same }

pub newest_state : {p ms : List Moment} {m : Moment} → Before p (m ∷ ms) → (p ≡ m ∷ ms) ⊎ Before p ms
newest_state Itself = inl refl
newest_state (Later newest more) = inr more

pub only_nothing : {p : List Moment} → Before p [] → p ≡ []
only_nothing Itself = refl

pub first_moments : (s : Settings) (t : Timing) → (run s t []).moments ≡ []
unfolding run
first_moments s t = refl

pub at_events : (s : Settings) (t : Timing) (p : List Moment) (events : List Event) → Before p (run s t events).moments → AtEvents s t p events
at_events s t p [] back = record { at = []; back = Itself; same = first_moments s t ∙ sym (only_nothing (subst (λ ms. Before p ms) (first_moments s t) back)) }
at_events s t p (e ∷ earlier) back = by_growth (grows s t e earlier) (λ more. at_events s t p earlier more)
  where
    by_newest : (m : Moment) → (run s t (e ∷ earlier)).moments ≡ m ∷ (run s t earlier).moments → (p ≡ m ∷ (run s t earlier).moments) ⊎ Before p (run s t earlier).moments
        → (Before p (run s t earlier).moments → AtEvents s t p earlier) → AtEvents s t p (e ∷ earlier)
    by_newest m added (inl same) rest = record { at = e ∷ earlier; back = Itself; same = added ∙ sym same }
    by_newest m added (inr more) rest = at_later e (rest more)

    by_growth : ((run s t (e ∷ earlier)).moments ≡ (run s t earlier).moments) ⊎ ((m : Moment) × ((run s t (e ∷ earlier)).moments ≡ m ∷ (run s t earlier).moments))
        → (Before p (run s t earlier).moments → AtEvents s t p earlier) → AtEvents s t p (e ∷ earlier)
    by_growth (inl same) rest = at_later e (rest (subst (λ ms. Before p ms) same back))
    by_growth (inr more) rest = by_newest more.0 more.1 (newest_state (subst (λ ms. Before p ms) more.1 back)) rest

-- The events that the nodes met beside an arbiter are a run of the world without one.
use Rattle.std.proofs.Common.{◌≡◌, ℕ, Bool, true, List, [], ◌∷◌, ◌++◌, Some, None, Option, refl, sym, ap, ◌∙◌, subst, ◌⊎◌, inl, inr, is_some, not, nat_le}
use Rattle.std.specs.Option.{option_map, option_map_or, option_or, option_to_list}
use Rattle.qn_base.specs.declared.ids.Rank.{Rank}
use Rattle.qn_model.specs.declared.configuration.Settings.{Settings}
use Rattle.qn_model.specs.declared.events.Event.{Event}
use Rattle.qn_model.specs.declared.times.Timing.{Timing}
use Rattle.qn_model.specs.Moments.{Before, Itself, Later, Moment, tick_of}
use Rattle.qn_model.specs.Rules.{is_configured, is_on, is_well_formed, refusal, unless}
use Rattle.qn_model.specs.Steps.{run, step}
use Rattle.qn_model.specs.World.{World, node_at}
use Rattle.qn_safety.specs.LogMoves.{LogMove}
use Rattle.qn_safety.specs.Timed.{IsTimedRun}
use Rattle.qn_safety.specs.declared.arbiter_event.ArbiterEvent.{ArbiterEvent}
use Rattle.qn_safety.specs.declared.arbiter_event.ArbiterEvent.TheVariants as beside
use Rattle.qn_safety.specs.declared.lease.Lease.{Lease}
use Rattle.qn_safety.specs.declared.polls.Poll.{Poll}
use Rattle.qn_safety.specs.declared.polls.Reply.{Reply}
use Rattle.qn_safety.specs.Poller.{Standing, answer_taken, next_poll}
use Rattle.qn_safety.specs.ArbiterWorld.{Arbiter, ArbiterWorld, poll_at, reply_at, standing_at}
use Rattle.qn_safety.specs.AnyNumbers.{is_ranked}
use Rattle.qn_safety.specs.ArbiterNumbers.{AllMayBeside, is_ranked_beside}
use Rattle.qn_safety.specs.ArbiterRules.{is_well_formed_beside, is_yes_of_device, may_pass_with, may_reply, refusal_beside}
use Rattle.qn_safety.specs.ArbiterSteps.{AllAllowedBeside, arbiter_after, device_event, played, plays, poll_sent, pollers_after, reply_event, reply_sent, reply_to, run_beside, step_beside, world_after}
use Rattle.qn_safety.proofs.ArbiterBelow.{Below}
use Rattle.qn_safety.proofs.Events as nodes
use Rattle.qn_safety.proofs.Events.{ranked_of}
use Rattle.qn_safety.proofs.ArbiterTools.{first_allows, added_item}
use Rattle.std.specs.Prelude.{slice_get}
use Rattle.std.proofs.lemmas.Option.{same_Some}
use Rattle.qn_base.specs.lemmas.Options.{none_is_not_some, value_there, value_tested}
use Rattle.qn_base.specs.lemmas.Bools.{second_of_both}
use Rattle.qn_model.specs.lemmas.Rules.{allowed}

-- the moments of the nodes after events
abbrev pub moments_at : Settings → Timing → Lease → List ArbiterEvent → List Moment
moments_at s t times events = (run_beside s t times events).world.moments

-- the parts of the world after one event more
pub world_now : (s : Settings) (t : Timing) (times : Lease) (event : ArbiterEvent) (earlier : List ArbiterEvent)
    → (run_beside s t times (event ∷ earlier)).world ≡ world_after s t event (run_beside s t times earlier)
unfolding run_beside step_beside
world_now s t times event earlier = refl

pub arbiter_now : (s : Settings) (t : Timing) (times : Lease) (event : ArbiterEvent) (earlier : List ArbiterEvent)
    → (run_beside s t times (event ∷ earlier)).arbiter ≡ arbiter_after times event (run_beside s t times earlier)
unfolding run_beside step_beside
arbiter_now s t times event earlier = refl

pub pollers_now : (s : Settings) (t : Timing) (times : Lease) (event : ArbiterEvent) (earlier : List ArbiterEvent)
    → (run_beside s t times (event ∷ earlier)).pollers ≡ pollers_after s times event (run_beside s t times earlier)
unfolding run_beside step_beside
pollers_now s t times event earlier = refl

pub polls_now : (s : Settings) (t : Timing) (times : Lease) (event : ArbiterEvent) (earlier : List ArbiterEvent)
    → (run_beside s t times (event ∷ earlier)).polls ≡ (run_beside s t times earlier).polls ++ option_to_list (poll_sent s event (run_beside s t times earlier))
unfolding run_beside step_beside
polls_now s t times event earlier = refl

pub replies_now : (s : Settings) (t : Timing) (times : Lease) (event : ArbiterEvent) (earlier : List ArbiterEvent)
    → (run_beside s t times (event ∷ earlier)).replies ≡ (run_beside s t times earlier).replies ++ option_to_list (reply_sent event (run_beside s t times earlier))
unfolding run_beside step_beside
replies_now s t times event earlier = refl

plays_now : (s : Settings) (t : Timing) (times : Lease) (event : ArbiterEvent) (earlier : List ArbiterEvent)
    → plays s t times (event ∷ earlier) ≡ option_to_list (played s event (run_beside s t times earlier)) ++ plays s t times earlier
unfolding plays
plays_now s t times event earlier = refl

-- events that are each allowed in their turn, newest first
pub data IsRun (s : Settings) (t : Timing) (times : Lease) : List ArbiterEvent → Type 0 where
  NoEvent : IsRun s t times []
  OneEvent : {event : ArbiterEvent} {earlier : List ArbiterEvent} → is_ranked_beside s event ≡ true → refusal_beside s t event (run_beside s t times earlier) ≡ None
      → IsRun s t times earlier → IsRun s t times (event ∷ earlier)

-- a well formed event boots and polls configured nodes
ranked_beside : (s : Settings) (event : ArbiterEvent) → is_well_formed_beside s event ≡ true → is_ranked_beside s event ≡ true
unfolding is_well_formed_beside is_ranked_beside
ranked_beside s (beside.One one) form = ranked_of s one form
ranked_beside s (beside.PassWith advance one) form = ranked_of s one (second_of_both (nat_le advance 1000000000000) (is_well_formed s one) form)
ranked_beside s (beside.ArbiterBoot base) form = refl
ranked_beside s beside.ArbiterCrash form = refl
ranked_beside s (beside.Poll rank) form = form
ranked_beside s (beside.Hear number) form = refl
ranked_beside s (beside.Reply number) form = refl

pub may_of_allowed : (s : Settings) (t : Timing) (times : Lease) (events : List ArbiterEvent) → AllAllowedBeside s t times events → AllMayBeside s t times events
unfolding AllAllowedBeside AllMayBeside
may_of_allowed s t times [] all = tt
may_of_allowed s t times (event ∷ earlier) all = (ranked_beside s event all.0, all.1, may_of_allowed s t times earlier all.2)

pub may_run : (s : Settings) (t : Timing) (times : Lease) (events : List ArbiterEvent) → AllMayBeside s t times events → IsRun s t times events
unfolding AllMayBeside
may_run s t times [] all = NoEvent
may_run s t times (event ∷ earlier) all = OneEvent all.0 all.1 (may_run s t times earlier all.2)

pub run_of : (s : Settings) (t : Timing) (times : Lease) (events : List ArbiterEvent) → AllAllowedBeside s t times events → IsRun s t times events
run_of s t times events all = may_run s t times events (may_of_allowed s t times events all)

-- an event that is allowed boots and polls configured nodes, and no rule refuses it
pub record IsAllowed (s : Settings) (t : Timing) (times : Lease) (event : ArbiterEvent) (earlier : List ArbiterEvent) : Type 0 where
  pub form : is_ranked_beside s event ≡ true
  pub ok : refusal_beside s t event (run_beside s t times earlier) ≡ None
  pub rest : IsRun s t times earlier

pub newest_allowed : {s : Settings} {t : Timing} {times : Lease} {event : ArbiterEvent} {earlier : List ArbiterEvent} → IsRun s t times (event ∷ earlier) → IsAllowed s t times event earlier
newest_allowed (OneEvent form ok rest) = record { form = form; ok = ok; rest = rest }

pub run_before : {s : Settings} {t : Timing} {times : Lease} {old new : List ArbiterEvent} → Before old new → IsRun s t times new → IsRun s t times old
run_before Itself run = run
run_before (Later newest more) (OneEvent form ok run) = run_before more run

-- the polls that were sent are of configured nodes
pub record Known (s : Settings) (w : ArbiterWorld) : Type 0 where
  pub polls : (number : ℕ) (poll : Poll) → poll_at number w ≡ Some poll → is_configured s poll.from.0 ≡ true

-- a reply that was sent, to a node that runs
pub reply_there : (s : Settings) (t : Timing) (number : ℕ) (w : ArbiterWorld) → refusal_beside s t (beside.Reply number) w ≡ None
    → (reply : Reply) × (reply_at number w ≡ Some reply) × (is_on s reply.to.0 w.world ≡ true)
unfolding refusal_beside
reply_there s t number w ok = value_tested (λ (reply : Reply). is_on s reply.to.0 w.world) (reply_at number w) (allowed (may_reply s number w) 14 ok)

pub poll_there : (s : Settings) (t : Timing) (rank : Rank) (w : ArbiterWorld) → refusal_beside s t (beside.Poll rank) w ≡ None
    → (at : Standing) × (standing_at s rank.0 w ≡ Some at)
unfolding refusal_beside
poll_there s t rank w ok = value_there (standing_at s rank.0 w) (allowed (is_some (standing_at s rank.0 w)) 13 ok)

-- the arbiter that hears, and the poll that it hears
pub record Hears (number : ℕ) (w : ArbiterWorld) : Type 0 where
  pub arbiter : Arbiter
  pub poll : Poll
  pub runs : w.arbiter ≡ Some arbiter
  pub there : poll_at number w ≡ Some poll

pub hear_there : (s : Settings) (t : Timing) (number : ℕ) (w : ArbiterWorld) → refusal_beside s t (beside.Hear number) w ≡ None → Hears number w
unfolding refusal_beside
hear_there s t number w ok =
    let rules = first_allows (is_some w.arbiter) 12 (unless (is_some (poll_at number w)) 14) ok in
    let arbiter = value_there w.arbiter rules.0 in
    let poll = value_there (poll_at number w) (allowed (is_some (poll_at number w)) 14 rules.1) in
    record { arbiter = arbiter.0; poll = poll.0; runs = arbiter.1; there = poll.1 }

-- the events that the nodes meet are well formed and allowed
handed_allowed : (s : Settings) (t : Timing) (rank : Rank) (answer : Option Bool) (w : World) → is_on s rank.0 w ≡ true
    → (is_ranked s (device_event rank answer) ≡ true) × (refusal s t (device_event rank answer) w ≡ None)
unfolding refusal
handed_allowed s t rank (Some agrees) w on = (refl, ap (λ b. option_or (unless b 3) None) on)
handed_allowed s t rank None w on = (refl, ap (λ b. option_or (unless b 3) None) on)

pub played_allowed : (s : Settings) (t : Timing) (event : ArbiterEvent) (w : ArbiterWorld) (one : Event) → is_ranked_beside s event ≡ true → refusal_beside s t event w ≡ None
    → played s event w ≡ Some one → (is_ranked s one ≡ true) × (refusal s t one w.world ≡ None)
unfolding is_ranked_beside refusal_beside played
played_allowed s t (beside.One other) w one form ok e =
    subst (λ x. (is_ranked s x ≡ true) × (refusal s t x w.world ≡ None)) (same_Some other one e)
    (form, (first_allows (not (is_yes_of_device other)) 11 (refusal s t other w.world) ok).1)
played_allowed s t (beside.PassWith advance other) w one form ok e =
    subst (λ x. (is_ranked s x ≡ true) × (refusal s t x w.world ≡ None)) (same_Some other one e)
    (form, (first_allows (may_pass_with advance other w) 15 (refusal s t other w.world) ok).1)
played_allowed s t (beside.ArbiterBoot base) w one form ok e = none_is_not_some one e
played_allowed s t beside.ArbiterCrash w one form ok e = none_is_not_some one e
played_allowed s t (beside.Poll rank) w one form ok e = none_is_not_some one e
played_allowed s t (beside.Hear number) w one form ok e = none_is_not_some one e
played_allowed s t (beside.Reply number) w one form ok e =
    let it = reply_there s t number w ok in
    let same : reply_event s w it.0 ≡ one = same_Some (reply_event s w it.0) one (sym (ap (λ o. option_map (reply_event s w) o) it.1) ∙ e) in
    subst (λ x. (is_ranked s x ≡ true) × (refusal s t x w.world ≡ None)) same
    (handed_allowed s t it.0.to (answer_taken (tick_of (node_at s it.0.to.0 w.world).clock) it.0 (w.pollers it.0.to.0)) w.world it.2)

-- what is sent is of a configured node
poll_known : (s : Settings) (t : Timing) (event : ArbiterEvent) (w : ArbiterWorld) (poll : Poll) → is_ranked_beside s event ≡ true → poll_sent s event w ≡ Some poll
    → is_configured s poll.from.0 ≡ true
unfolding is_ranked_beside poll_sent
poll_known s t (beside.One one) w poll form e = none_is_not_some poll e
poll_known s t (beside.PassWith advance one) w poll form e = none_is_not_some poll e
poll_known s t (beside.ArbiterBoot base) w poll form e = none_is_not_some poll e
poll_known s t beside.ArbiterCrash w poll form e = none_is_not_some poll e
poll_known s t (beside.Hear number) w poll form e = none_is_not_some poll e
poll_known s t (beside.Reply number) w poll form e = none_is_not_some poll e
poll_known s t (beside.Poll rank) w poll form e = by_standing (standing_at s rank.0 w) e
  where
    by_standing : (o : Option Standing) → option_map (λ at. next_poll rank at (w.pollers rank.0)) o ≡ Some poll → is_configured s poll.from.0 ≡ true
    by_standing None is = none_is_not_some poll is
    by_standing (Some at) is = subst (λ p. is_configured s p.from.0 ≡ true) (same_Some (next_poll rank at (w.pollers rank.0)) poll is) form

-- the run of the nodes alone
pub record Plays (s : Settings) (t : Timing) (times : Lease) (events : List ArbiterEvent) : Type 0 where
  pub allowed : nodes.IsAllowed s t (plays s t times events)
  pub same : (run_beside s t times events).world ≡ run s t (plays s t times events)
  pub known : Known s (run_beside s t times events)

all_with : (s : Settings) (t : Timing) (o : Option Event) (w : World) (more : List Event) → w ≡ run s t more
    → ((one : Event) → o ≡ Some one → (is_ranked s one ≡ true) × (refusal s t one w ≡ None)) → nodes.IsAllowed s t more → nodes.IsAllowed s t (option_to_list o ++ more)
all_with s t None w more same may all = all
all_with s t (Some one) w more same may all = nodes.OneEvent (may one refl).0 (subst (λ v. refusal s t one v ≡ None) same (may one refl).1) all

same_with : (s : Settings) (t : Timing) (o : Option Event) (w : World) (more : List Event) → w ≡ run s t more
    → option_map_or (λ one. step s t one w) o w ≡ run s t (option_to_list o ++ more)
unfolding run
same_with s t None w more same = same
same_with s t (Some one) w more same = ap (λ v. step s t one v) same

first_plays : (s : Settings) (t : Timing) (times : Lease) → Plays s t times []
unfolding plays run_beside run
first_plays s t times = record {
  allowed = nodes.NoEvent;
  same = refl;
  known = record { polls = λ number poll e. none_is_not_some poll e };
}

known_step : (s : Settings) (t : Timing) (times : Lease) (event : ArbiterEvent) (earlier : List ArbiterEvent) → is_ranked_beside s event ≡ true
    → Known s (run_beside s t times earlier) → Known s (run_beside s t times (event ∷ earlier))
known_step s t times event earlier form known = record {
  polls = λ number poll e. by_poll number poll (added_item w.polls (poll_sent s event w) number poll (sym (ap (λ ps. slice_get ps number) (polls_now s t times event earlier)) ∙ e));
}
  where
    w : ArbiterWorld
    w = run_beside s t times earlier

    by_poll : (number : ℕ) (poll : Poll) → (poll_at number w ≡ Some poll) ⊎ (poll_sent s event w ≡ Some poll) → is_configured s poll.from.0 ≡ true
    by_poll number poll (inl was) = known.polls number poll was
    by_poll number poll (inr new) = poll_known s t event w poll form new

plays_step : {s : Settings} {t : Timing} {times : Lease} {event : ArbiterEvent} {earlier : List ArbiterEvent} → IsAllowed s t times event earlier → Plays s t times earlier
    → Plays s t times (event ∷ earlier)
plays_step {s = s} {t = t} {times = times} {event = event} {earlier = earlier} it was =
    let w = run_beside s t times earlier in
    let allowed = all_with s t (played s event w) w.world (plays s t times earlier) was.same (λ one e. played_allowed s t event w one it.form it.ok e) was.allowed in
    record {
      allowed = subst (λ es. nodes.IsAllowed s t es) (sym (plays_now s t times event earlier)) allowed;
      same = world_now s t times event earlier ∙ same_with s t (played s event w) w.world (plays s t times earlier) was.same
          ∙ sym (ap (λ es. run s t es) (plays_now s t times event earlier));
      known = known_step s t times event earlier it.form was.known;
    }

pub plays_of : (s : Settings) (t : Timing) (times : Lease) (events : List ArbiterEvent) → IsRun s t times events → Plays s t times events
plays_of s t times [] all = first_plays s t times
plays_of s t times (event ∷ earlier) (OneEvent form ok rest) = plays_step (record { form = form; ok = ok; rest = rest }) (plays_of s t times earlier rest)

-- the moments are those of a timed run
pub timed_of : {s : Settings} {t : Timing} {times : Lease} {events : List ArbiterEvent} → Below → IsRun s t times events → IsTimedRun s t (moments_at s t times events)
timed_of {s = s} {t = t} {times = times} {events = events} law all =
    let it = plays_of s t times events all in
    subst (λ w. IsTimedRun s t w.moments) (sym it.same) (law.timed s t (plays s t times events) it.allowed)

-- what an event is to the nodes: they meet nothing, or an event that moves their logs
pub data NodeMove (s : Settings) (t : Timing) (times : Lease) (event : ArbiterEvent) (earlier : List ArbiterEvent) (rank : ℕ) : Type 0 where
  NoMove : played s event (run_beside s t times earlier) ≡ None → moments_at s t times (event ∷ earlier) ≡ moments_at s t times earlier → NodeMove s t times event earlier rank
  Moves : (one : Event) → played s event (run_beside s t times earlier) ≡ Some one → LogMove s rank one (moments_at s t times earlier) (moments_at s t times (event ∷ earlier))
      → NodeMove s t times event earlier rank

pub node_move : {s : Settings} {t : Timing} {times : Lease} {event : ArbiterEvent} {earlier : List ArbiterEvent} → Below → IsRun s t times (event ∷ earlier) → (rank : ℕ)
    → NodeMove s t times event earlier rank
node_move {s = s} {t = t} {times = times} {event = event} {earlier = earlier} law all rank = by_played (played s event (run_beside s t times earlier)) refl
  where
    now : Plays s t times (event ∷ earlier)
    now = plays_of s t times (event ∷ earlier) all

    was : Plays s t times earlier
    was = plays_of s t times earlier (newest_allowed all).rest

    events_are : (o : Option Event) → played s event (run_beside s t times earlier) ≡ o → plays s t times (event ∷ earlier) ≡ option_to_list o ++ plays s t times earlier
    events_are o e = plays_now s t times event earlier ∙ ap (λ x. option_to_list x ++ plays s t times earlier) e

    by_played : (o : Option Event) → played s event (run_beside s t times earlier) ≡ o → NodeMove s t times event earlier rank
    by_played None e = NoMove e (ap (λ w. w.moments) now.same ∙ ap (λ es. (run s t es).moments) (events_are None e) ∙ sym (ap (λ w. w.moments) was.same))
    by_played (Some one) e =
        let allowed = subst (λ es. nodes.IsAllowed s t es) (events_are (Some one) e) now.allowed in
        let moved = law.move s t one (plays s t times earlier) rank allowed in
        Moves one e
        (subst (λ ms. LogMove s rank one ms (moments_at s t times (event ∷ earlier))) (sym (ap (λ w. w.moments) was.same))
        (subst (λ ms. LogMove s rank one (run s t (plays s t times earlier)).moments ms) (sym (ap (λ w. w.moments) now.same ∙ ap (λ es. (run s t es).moments) (events_are (Some one) e))) moved))

-- moments are only added
plays_grow : (s : Settings) (t : Timing) (times : Lease) {old new : List ArbiterEvent} → Before old new → Before (plays s t times old) (plays s t times new)
plays_grow s t times Itself = Itself
plays_grow s t times {old = old} (Later newest {new = rest} more) =
    subst (λ es. Before (plays s t times old) es) (sym (plays_now s t times newest rest)) (by_played (played s newest (run_beside s t times rest)) (plays_grow s t times more))
  where
    by_played : (o : Option Event) → Before (plays s t times old) (plays s t times rest) → Before (plays s t times old) (option_to_list o ++ plays s t times rest)
    by_played None back = back
    by_played (Some one) back = Later one back

pub moments_grow : {s : Settings} {t : Timing} {times : Lease} {old new : List ArbiterEvent} → Below → IsRun s t times new → Before old new
    → Before (moments_at s t times old) (moments_at s t times new)
moments_grow {s = s} {t = t} {times = times} {old = old} {new = new} law all back =
    let now = plays_of s t times new all in
    let was = plays_of s t times old (run_before back all) in
    subst (λ w. Before (moments_at s t times old) w.moments) (sym now.same)
    (subst (λ w. Before w.moments (run s t (plays s t times new)).moments) (sym was.same) (law.grow s t (plays s t times old) (plays s t times new) (plays_grow s t times back)))

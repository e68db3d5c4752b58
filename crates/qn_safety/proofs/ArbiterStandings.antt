-- Where each poll was sent, and what a poller keeps of its last one.
use Rattle.std.proofs.Common.{◌≡◌, ℕ, suc, ◌<◌, ◌≤◌, Bool, true, false, List, ◌∷◌, Some, None, Option, refl, sym, ap, ◌∙◌, subst, arith, ◌&&◌, ◌⊎◌, inl, inr, if◌then◌else◌, unwrap_or}
use Rattle.std.specs.Prelude.{slice_get, is_some}
use Rattle.std.specs.Option.{option_map, option_or}
use Rattle.std.proofs.lemmas.Option.{same_Some}
use Rattle.qn_base.specs.declared.ids.Rank.{Rank}
use Rattle.qn_base.specs.declared.ids.View.{View}
use Rattle.qn_base.specs.lemmas.Options.{none_is_not_some}
use Rattle.qn_base.specs.lemmas.Bools.{never_both, first_of_both, second_of_both}
use Rattle.qn_model.specs.declared.configuration.Settings.{Settings}
use Rattle.qn_model.specs.declared.entries.What.{What}
use Rattle.qn_model.specs.declared.entries.What.TheVariants as what
use Rattle.qn_model.specs.declared.events.Event.{Event}
use Rattle.qn_model.specs.declared.events.Event.TheVariants as event
use Rattle.qn_model.specs.declared.times.Timing.{Timing}
use Rattle.qn_model.specs.lemmas.Phases.{up_booted}
use Rattle.qn_model.specs.Log.{Line, incarnation, view_of}
use Rattle.qn_model.specs.Moments.{Before, Itself, Later, Moment, Running, node, tick_of}
use Rattle.qn_model.specs.NodeVotes.{install, view}
use Rattle.qn_model.specs.Phases.{is_up, phase}
use Rattle.qn_model.specs.Steps.{run}
use Rattle.qn_safety.specs.LogMoves.{ComesOf, LogMove, Rests, Enters, Begins, is_boot_of}
use Rattle.qn_safety.specs.Timed.{IsSameBoot, IsUp}
use Rattle.qn_safety.specs.declared.arbiter_event.ArbiterEvent.{ArbiterEvent}
use Rattle.qn_safety.specs.declared.lease.Lease.{Lease}
use Rattle.qn_safety.specs.declared.polls.Poll.{Poll}
use Rattle.qn_safety.specs.Poller.{Poller, SentPoll, Standing, next_poll, with_sent}
use Rattle.qn_safety.specs.ArbiterWorld.{poll_at, standing_at, standing_in, standing_of}
use Rattle.qn_safety.specs.ArbiterSteps.{plays, poll_sent, run_beside}
use Rattle.qn_safety.proofs.ArbiterBelow.{Below}
use Rattle.qn_safety.proofs.ArbiterTools.{before_then, added_item}
use Rattle.qn_safety.proofs.ArbiterPlaying.{IsRun, NoEvent, OneEvent, moments_at, moments_grow, plays_of, polls_now}
use Rattle.qn_safety.proofs.ArbiterSendings.{PollerMove, Keeps, Forgets, Fresh, RankStep, Idle, Sends, Acts, rank_step}
use Rattle.qn_safety.proofs.Installs.{same_install}

-- a poll that a rank sent at some moments: the rank was up, and the poll tells what it had then
pub record SentFrom (s : Settings) (rank : ℕ) (poll : Poll) (sent : List Moment) : Type 0 where
  pub from : poll.from.0 ≡ rank
  pub up : IsUp s rank sent
  pub number : incarnation (node s rank sent).log ≡ Some poll.incarnation
  pub installed : install (node s rank sent).log ≡ poll.install
  pub seen : view (node s rank sent).log ≡ Some poll.view

-- the number of a poll in its boot: it is below the count of polls, and the last poll, where it has that number, was sent at
-- the same tick
pub record Numbered (s : Settings) (rank : ℕ) (poll : Poll) (sent moments : List Moment) (poller : Poller) : Type 0 where
  pub back : Before sent moments
  pub below : IsSameBoot s rank sent moments → poll.number < poller.count
  pub ticks : IsSameBoot s rank sent moments → (last : SentPoll) → poller.last ≡ Some last → last.poll.number ≡ poll.number → last.tick ≡ tick_of (node s rank sent).clock

-- the last poll of a rank was sent in its present boot, and no view came since
pub record LastStands (s : Settings) (rank : ℕ) (last : SentPoll) (moments : List Moment) : Type 0 where
  pub sent : List Moment
  pub from : SentFrom s rank last.poll sent
  pub back : Before sent moments
  pub same : IsSameBoot s rank sent moments
  pub installed : install (node s rank moments).log ≡ last.poll.install

-- what a node shows in a poll is what it has
record Shows (s : Settings) (n : Running) (at : Standing) : Type 0 where
  on : n.on ≡ true
  up : is_up (phase s n.log) ≡ true
  seen : view n.log ≡ Some at.view
  shown : at ≡ standing_in n at.view

shows : (s : Settings) (n : Running) (at : Standing) → standing_of s n ≡ Some at → Shows s n at
shows s n at e = by_up (n.on && is_up (phase s n.log)) refl e
  where
    by_view : (n.on && is_up (phase s n.log)) ≡ true → (o : Option View) → view n.log ≡ o → option_map (standing_in n) o ≡ Some at → Shows s n at
    by_view up None seen is = none_is_not_some at is
    by_view up (Some v) seen is =
        let same = same_Some (standing_in n v) at is in
        let own : v ≡ at.view = ap (λ (x : Standing). x.view) same in
        record {
          on = first_of_both n.on (is_up (phase s n.log)) up;
          up = second_of_both n.on (is_up (phase s n.log)) up;
          seen = seen ∙ ap Some own;
          shown = sym same ∙ ap (standing_in n) own;
        }

    by_up : (b : Bool) → (n.on && is_up (phase s n.log)) ≡ b → (if b then option_map (standing_in n) (view n.log) else None) ≡ Some at → Shows s n at
    by_up true up is = by_view up (view n.log) refl is
    by_up false up is = none_is_not_some at is

-- the poll that a rank sends tells what it has
sends_from : {s : Settings} {t : Timing} {times : Lease} {earlier : List ArbiterEvent} → Below → IsRun s t times earlier → (rank : ℕ) (own : Rank) (at : Standing) (poller : Poller)
    → own.0 ≡ rank → standing_at s rank (run_beside s t times earlier) ≡ Some at → SentFrom s rank (next_poll own at poller) (moments_at s t times earlier)
sends_from {s = s} {t = t} {times = times} {earlier = earlier} law allowed rank own at poller is stands =
    let n = node s rank (moments_at s t times earlier) in
    let it = shows s n at stands in
    let up : IsUp s rank (moments_at s t times earlier) = record { on = it.on; booted = up_booted (phase s n.log) it.up } in
    let plain = plays_of s t times earlier allowed in
    let has = subst (λ w. incarnation (node s rank w.moments).log ≡ Some ((run s t (plays s t times earlier)).slots rank).incarnation) (sym plain.same)
    (law.number s t (plays s t times earlier) rank plain.allowed (subst (λ w. IsUp s rank w.moments) plain.same up)) in
    let shown : at.incarnation ≡ unwrap_or (incarnation n.log) 0 = ap (λ (x : Standing). x.incarnation) it.shown in
    record {
      from = is;
      up = up;
      number = has ∙ ap Some (sym (shown ∙ ap (λ o. unwrap_or o 0) has));
      installed = sym (ap (λ (x : Standing). x.install) it.shown);
      seen = it.seen;
    }

shown_tick : (s : Settings) (rank : ℕ) (moments : List Moment) (at : Standing) → standing_of s (node s rank moments) ≡ Some at → at.tick ≡ tick_of (node s rank moments).clock
shown_tick s rank moments at stands = ap (λ (x : Standing). x.tick) (shows s (node s rank moments) at stands).shown

-- the number of a poll keeps what it is
numbered_move : (s : Settings) (times : Lease) (rank : ℕ) (poll : Poll) (sent old new : List Moment) (before after : Poller) (one : Event)
    → Before old new → ((node s rank sent).boots ≤ (node s rank old).boots) → LogMove s rank one old new → PollerMove times rank one before after
    → Numbered s rank poll sent old before → Numbered s rank poll sent new after
numbered_move s times rank poll sent old new before after one back rose moved poller was = by_moves moved poller
  where
    kept : IsSameBoot s rank old new → PollerMove times rank one before after → is_boot_of rank one ≡ false → Numbered s rank poll sent new after
    kept same (Keeps e unseen none) boots = record {
      back = before_then was.back back;
      below = λ own. subst (λ (p : Poller). poll.number < p.count) (sym e) (was.below (own ∙ sym same));
      ticks = λ own last is number. was.ticks (own ∙ sym same) last (sym (ap (λ (p : Poller). p.last) e) ∙ is) number;
    }
    kept same (Forgets e none) boots = record {
      back = before_then was.back back;
      below = λ own. subst (λ (p : Poller). poll.number < p.count) (sym e) (was.below (own ∙ sym same));
      ticks = λ own last is number. none_is_not_some last (sym (ap (λ (p : Poller). p.last) e) ∙ is);
    }
    kept same (Fresh e boot) boots = never_both (is_boot_of rank one) boot boots

    by_moves : LogMove s rank one old new → PollerMove times rank one before after → Numbered s rank poll sent new after
    by_moves (Rests none same log) poller' = kept same poller' none
    by_moves (Enters line none same log comes tick) poller' = kept same poller' none
    by_moves (Begins line boot count log begins) poller' = record {
      back = before_then was.back back;
      below = λ own. absurd (let p : (node s rank sent).boots ≡ (node s rank new).boots = own in omega arith);
      ticks = λ own last is number. absurd (let p : (node s rank sent).boots ≡ (node s rank new).boots = own in omega arith);
    }

pub numbered_step : {s : Settings} {t : Timing} {times : Lease} {event : ArbiterEvent} {earlier : List ArbiterEvent} → Below → IsRun s t times (event ∷ earlier) → (rank : ℕ) (poll : Poll) (sent : List Moment)
    → Numbered s rank poll sent (moments_at s t times earlier) ((run_beside s t times earlier).pollers rank)
    → Numbered s rank poll sent (moments_at s t times (event ∷ earlier)) ((run_beside s t times (event ∷ earlier)).pollers rank)
numbered_step {s = s} {t = t} {times = times} {event = event} {earlier = earlier} law run rank poll sent was = by_step (rank_step law run rank)
  where
    old : List Moment
    old = moments_at s t times earlier

    new : List Moment
    new = moments_at s t times (event ∷ earlier)

    before : Poller
    before = (run_beside s t times earlier).pollers rank

    after : Poller
    after = (run_beside s t times (event ∷ earlier)).pollers rank

    by_step : RankStep s times event (run_beside s t times earlier) rank old new before after → Numbered s rank poll sent new after
    by_step (Idle same kept silent) = subst (λ p. Numbered s rank poll sent new p) (sym kept) (subst (λ ms. Numbered s rank poll sent ms before) (sym same) was)
    by_step (Sends own at is same stands kept gave) = subst (λ p. Numbered s rank poll sent new p) (sym kept) (subst (λ ms. Numbered s rank poll sent ms (with_sent own at before)) (sym same)
        (record {
          back = was.back;
          below = λ boot. let p = was.below boot in omega arith;
          ticks = λ boot last e number. absurd (let p = was.below boot in let q : before.count ≡ last.poll.number = ap (λ (x : SentPoll). x.poll.number) (same_Some _ last e) in omega arith);
        }))
    by_step (Acts one plays' moved poller silent) =
        numbered_move s times rank poll sent old new before after one (moments_grow law run (Later event Itself)) (law.count s rank sent old was.back) moved poller was

-- what is no view leaves the install number and the view
unseen_entry : (one : Event) (rank : ℕ) (w : What) → ComesOf one rank w → ((seen : View) → one ≡ event.View (record { 0 = rank }) seen → ⊥) → view_of w ≡ None
unseen_entry one rank (what.View seen) comes unseen = absurd (unseen seen comes)
unseen_entry one rank (what.Device agrees) comes unseen = refl
unseen_entry one rank what.Begin comes unseen = refl
unseen_entry one rank what.BeginClean comes unseen = refl
unseen_entry one rank (what.Header seen) comes unseen = refl
unseen_entry one rank (what.SlotRead other seen) comes unseen = refl
unseen_entry one rank (what.MailChecked seen) comes unseen = refl
unseen_entry one rank (what.Claimed ok) comes unseen = refl
unseen_entry one rank (what.Cleared ok) comes unseen = refl
unseen_entry one rank (what.MailRead seen) comes unseen = refl
unseen_entry one rank (what.MailWritten other ok) comes unseen = refl
unseen_entry one rank (what.Ask ask) comes unseen = refl
unseen_entry one rank (what.Tell tell) comes unseen = refl
unseen_entry one rank what.Tick comes unseen = refl
unseen_entry one rank (what.Stopped ok) comes unseen = refl
unseen_entry one rank what.Leave comes unseen = refl
unseen_entry one rank (what.Closed ok) comes unseen = refl

-- the last poll stands while it is kept
pub last_stands : {s : Settings} {t : Timing} {times : Lease} {events : List ArbiterEvent} → Below → IsRun s t times events → (rank : ℕ) (last : SentPoll)
    → ((run_beside s t times events).pollers rank).last ≡ Some last → LastStands s rank last (moments_at s t times events)
unfolding run_beside
last_stands law NoEvent rank last is = none_is_not_some last is
last_stands {s = s} {t = t} {times = times} law (OneEvent {event = event} {earlier = earlier} form ok run) rank last is =
    by_step (rank_step law (OneEvent form ok run) rank) (λ was. last_stands law run rank last was)
  where
    old : List Moment
    old = moments_at s t times earlier

    new : List Moment
    new = moments_at s t times (event ∷ earlier)

    before : Poller
    before = (run_beside s t times earlier).pollers rank

    after : Poller
    after = (run_beside s t times (event ∷ earlier)).pollers rank

    grows : Before old new
    grows = moments_grow law (OneEvent form ok run) (Later event Itself)

    moved_on : LastStands s rank last old → IsSameBoot s rank old new → install (node s rank new).log ≡ install (node s rank old).log → LastStands s rank last new
    moved_on was same kept = record {
      sent = was.sent;
      from = was.from;
      back = before_then was.back grows;
      same = was.same ∙ same;
      installed = kept ∙ was.installed;
    }

    by_poller : (one : Event) → LogMove s rank one old new → PollerMove times rank one before after → (before.last ≡ Some last → LastStands s rank last old) → LastStands s rank last new
    by_poller one moved (Forgets e none) rest = none_is_not_some last (sym (ap (λ (p : Poller). p.last) e) ∙ is)
    by_poller one moved (Fresh e boot) rest = none_is_not_some last (sym (ap (λ (p : Poller). p.last) e) ∙ is)
    by_poller one (Rests none same log) (Keeps e unseen boots) rest = moved_on (rest (sym (ap (λ (p : Poller). p.last) e) ∙ is)) same (ap install log)
    by_poller one (Enters line none same log comes tick) (Keeps e unseen boots) rest =
        moved_on (rest (sym (ap (λ (p : Poller). p.last) e) ∙ is)) same (ap install log ∙ same_install line (node s rank old).log (unseen_entry one rank line.what comes unseen))
    by_poller one (Begins line boot count log begins) (Keeps e unseen boots) rest = never_both (is_boot_of rank one) boot boots

    by_step : RankStep s times event (run_beside s t times earlier) rank old new before after → (before.last ≡ Some last → LastStands s rank last old) → LastStands s rank last new
    by_step (Idle same kept silent) rest = subst (λ ms. LastStands s rank last ms) (sym same) (rest (sym (ap (λ (p : Poller). p.last) kept) ∙ is))
    by_step (Sends own at own_rank same stands kept gave) rest =
        let new_last = same_Some (record { tick = at.tick; poll = next_poll own at before }) last (sym (ap (λ (p : Poller). p.last) kept) ∙ is) in
        let from = sends_from law run rank own at before own_rank stands in
        subst (λ ms. LastStands s rank last ms) (sym same)
        (subst (λ x. LastStands s rank x old) new_last (record { sent = old; from = from; back = Itself; same = refl; installed = from.installed }))
    by_step (Acts one plays' moved poller silent) rest = by_poller one moved poller rest

-- where a poll that was sent was sent
pub record WasSent (s : Settings) (rank : ℕ) (poll : Poll) (moments : List Moment) (poller : Poller) : Type 0 where
  pub sent : List Moment
  pub from : SentFrom s rank poll sent
  pub numbered : Numbered s rank poll sent moments poller

pub was_sent : {s : Settings} {t : Timing} {times : Lease} {events : List ArbiterEvent} → Below → IsRun s t times events → (number : ℕ) (poll : Poll)
    → poll_at number (run_beside s t times events) ≡ Some poll → WasSent s poll.from.0 poll (moments_at s t times events) ((run_beside s t times events).pollers poll.from.0)
unfolding run_beside
was_sent law NoEvent number poll is = none_is_not_some poll is
was_sent {s = s} {t = t} {times = times} law (OneEvent {event = event} {earlier = earlier} form ok run) number poll is =
    by_item (added_item (run_beside s t times earlier).polls (poll_sent s event (run_beside s t times earlier)) number poll (sym (ap (λ ps. slice_get ps number) (polls_now s t times event earlier)) ∙ is))
    (λ was. was_sent law run number poll was)
  where
    rank : ℕ
    rank = poll.from.0

    old : List Moment
    old = moments_at s t times earlier

    new : List Moment
    new = moments_at s t times (event ∷ earlier)

    before : Poller
    before = (run_beside s t times earlier).pollers rank

    after : Poller
    after = (run_beside s t times (event ∷ earlier)).pollers rank

    by_step : RankStep s times event (run_beside s t times earlier) rank old new before after → poll_sent s event (run_beside s t times earlier) ≡ Some poll → WasSent s rank poll new after
    by_step (Idle same kept silent) gives = absurd (silent poll gives refl)
    by_step (Acts one plays' moved poller silent) gives = none_is_not_some poll (sym silent ∙ gives)
    by_step (Sends own at own_rank same stands kept gave) gives =
        let it = same_Some (next_poll own at before) poll (sym gave ∙ gives) in
        let from = subst (λ p. SentFrom s rank p old) it (sends_from law run rank own at before own_rank stands) in
        let number_is : before.count ≡ poll.number = ap (λ (p : Poll). p.number) it in
        subst (λ p. WasSent s rank poll new p) (sym kept) (subst (λ ms. WasSent s rank poll ms (with_sent own at before)) (sym same)
        (record {
          sent = old;
          from = from;
          numbered = record {
            back = Itself;
            below = λ boot. omega arith;
            ticks = λ boot last e same_number. sym (ap (λ (x : SentPoll). x.tick) (same_Some _ last e)) ∙ shown_tick s rank old at stands;
          };
        }))

    by_item : (poll_at number (run_beside s t times earlier) ≡ Some poll) ⊎ (poll_sent s event (run_beside s t times earlier) ≡ Some poll)
        → (poll_at number (run_beside s t times earlier) ≡ Some poll → WasSent s rank poll old before) → WasSent s rank poll new after
    by_item (inl was) rest = let it = rest was in record { sent = it.sent; from = it.from; numbered = numbered_step law (OneEvent form ok run) rank poll it.sent it.numbered }
    by_item (inr gives) rest = by_step (rank_step law (OneEvent form ok run) rank) gives

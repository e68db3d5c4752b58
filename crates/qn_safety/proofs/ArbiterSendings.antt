-- What an event is to the node of a rank and its poller; where a poll was sent, and that no two polls of one boot have one number.
use Rattle.std.proofs.Common.{◌≡◌, ℕ, Bool, true, false, List, ◌∷◌, Some, None, Option, refl, sym, ap, ◌∙◌, subst, ◌&&◌, ◌==◌, if◌then◌else◌}
use Rattle.std.specs.Option.{option_map, option_map_or}
use Rattle.std.proofs.lemmas.Bool.{eq-eqb, eqb-true, true≢false}
use Rattle.std.proofs.lemmas.Option.{same_Some}
use Rattle.qn_base.specs.declared.ids.Rank.{Rank}
use Rattle.qn_base.specs.declared.ids.View.{View}
use Rattle.qn_base.specs.lemmas.Options.{none_is_not_some, value_tested}
use Rattle.qn_model.specs.declared.configuration.Settings.{Settings}
use Rattle.qn_model.specs.declared.events.Event.{Event}
use Rattle.qn_model.specs.declared.events.Event.TheVariants as event
use Rattle.qn_model.specs.declared.times.Timing.{Timing}
use Rattle.qn_model.specs.Moments.{Moment}
use Rattle.qn_model.specs.World.{put}
use Rattle.qn_model.specs.Steps.{run}
use Rattle.qn_safety.specs.LogMoves.{LogMove, is_boot_of}
use Rattle.qn_safety.specs.declared.arbiter_event.ArbiterEvent.{ArbiterEvent}
use Rattle.qn_safety.specs.declared.arbiter_event.ArbiterEvent.TheVariants as beside
use Rattle.qn_safety.specs.declared.lease.Lease.{Lease}
use Rattle.qn_safety.specs.declared.polls.Poll.{Poll}
use Rattle.qn_safety.specs.Poller.{Poller, Standing, fresh_poller, next_poll, with_sent, without_last}
use Rattle.qn_safety.specs.ArbiterWorld.{ArbiterWorld, standing_at}
use Rattle.qn_safety.specs.ArbiterRules.{is_arbiter_on, may_pass_with, pass_of, refusal_beside}
use Rattle.qn_safety.specs.ArbiterSteps.{device_event, played, poll_sent, pollers_after, pollers_with, reply_event, run_beside}
use Rattle.qn_safety.proofs.ArbiterBelow.{Below}
use Rattle.qn_safety.proofs.ArbiterTools.{first_allows}
use Rattle.qn_safety.proofs.ArbiterPlaying.{IsRun, NodeMove, NoMove, Moves, moments_at, newest_allowed, node_move, poll_there, pollers_now, reply_there}
use Rattle.qn_model.specs.Rules.{is_within_bounds, refusal}

-- what an event of the nodes is to the poller of a rank
pub data PollerMove (times : Lease) (rank : ℕ) (one : Event) (before after : Poller) : Type 0 where
  Keeps : after ≡ before → ((seen : View) → one ≡ event.View (record { 0 = rank }) seen → ⊥) → is_boot_of rank one ≡ false → PollerMove times rank one before after
  Forgets : after ≡ without_last before → is_boot_of rank one ≡ false → PollerMove times rank one before after
  Fresh : after ≡ fresh_poller times.limit → is_boot_of rank one ≡ true → PollerMove times rank one before after

view_rank : (a b : Rank) (v w : View) → event.View a v ≡ event.View b w → a ≡ b
view_rank a b v w e = cc

boot_poller : (times : Lease) (rank : ℕ) (one : Event) (before : Poller) (b : Bool) → is_boot_of rank one ≡ b → ((seen : View) → one ≡ event.View (record { 0 = rank }) seen → ⊥)
    → PollerMove times rank one before (if b then fresh_poller times.limit else before)
boot_poller times rank one before true e none = Fresh refl e
boot_poller times rank one before false e none = Keeps refl none e

view_poller : (times : Lease) (rank : ℕ) (other : Rank) (seen : View) (pollers : ℕ → Poller) (b : Bool) → (other.0 == rank) ≡ b
    → PollerMove times rank (event.View other seen) (pollers rank) (if b then without_last (pollers other.0) else pollers rank)
view_poller times rank other seen pollers true e = Forgets (ap (λ k. without_last (pollers k)) (eqb-true other.0 rank e)) refl
view_poller times rank other seen pollers false e =
    Keeps refl (λ v q. true≢false (sym (eq-eqb other.0 rank (ap (λ (k : Rank). k.0) (view_rank other (record { 0 = rank }) seen v q))) ∙ e)) refl

poller_move : (times : Lease) (rank : ℕ) (one : Event) (pollers : ℕ → Poller) → PollerMove times rank one (pollers rank) (pollers_with times one pollers rank)
poller_move times rank (event.Boot other base) pollers = boot_poller times rank (event.Boot other base) (pollers rank) (other.0 == rank) refl (λ v q. cc)
poller_move times rank (event.BootClean other base) pollers = boot_poller times rank (event.BootClean other base) (pollers rank) (other.0 == rank) refl (λ v q. cc)
poller_move times rank (event.View other seen) pollers = view_poller times rank other seen pollers (other.0 == rank) refl
poller_move times rank (event.Pass dt clocks) pollers = Keeps refl (λ v q. cc) refl
poller_move times rank (event.Crash other) pollers = Keeps refl (λ v q. cc) refl
poller_move times rank (event.Land other) pollers = Keeps refl (λ v q. cc) refl
poller_move times rank (event.Done other) pollers = Keeps refl (λ v q. cc) refl
poller_move times rank (event.Fail other) pollers = Keeps refl (λ v q. cc) refl
poller_move times rank (event.Late other number) pollers = Keeps refl (λ v q. cc) refl
poller_move times rank (event.Deliver other number) pollers = Keeps refl (λ v q. cc) refl
poller_move times rank (event.Device other agrees) pollers = Keeps refl (λ v q. cc) refl
poller_move times rank (event.Tick other) pollers = Keeps refl (λ v q. cc) refl
poller_move times rank (event.Stopped other) pollers = Keeps refl (λ v q. cc) refl
poller_move times rank (event.Unstopped other) pollers = Keeps refl (λ v q. cc) refl
poller_move times rank (event.Leave other) pollers = Keeps refl (λ v q. cc) refl
poller_move times rank (event.Feed other) pollers = Keeps refl (λ v q. cc) refl
poller_move times rank (event.Operator other message) pollers = Keeps refl (λ v q. cc) refl

device_keeps : (times : Lease) (rank : ℕ) (to : Rank) (answer : Option Bool) (poller : Poller) → PollerMove times rank (device_event to answer) poller poller
device_keeps times rank to (Some agrees) poller = Keeps refl (λ v q. cc) refl
device_keeps times rank to None poller = Keeps refl (λ v q. cc) refl

pass_keeps : (times : Lease) (rank : ℕ) (one : Event) (dt : ℕ) (poller : Poller) → pass_of one ≡ Some dt → PollerMove times rank one poller poller
pass_keeps times rank (event.Pass time clocks) dt poller e = Keeps refl (λ v q. cc) refl
pass_keeps times rank (event.Boot other base) dt poller e = none_is_not_some dt e
pass_keeps times rank (event.BootClean other base) dt poller e = none_is_not_some dt e
pass_keeps times rank (event.View other seen) dt poller e = none_is_not_some dt e
pass_keeps times rank (event.Crash other) dt poller e = none_is_not_some dt e
pass_keeps times rank (event.Land other) dt poller e = none_is_not_some dt e
pass_keeps times rank (event.Done other) dt poller e = none_is_not_some dt e
pass_keeps times rank (event.Fail other) dt poller e = none_is_not_some dt e
pass_keeps times rank (event.Late other number) dt poller e = none_is_not_some dt e
pass_keeps times rank (event.Deliver other number) dt poller e = none_is_not_some dt e
pass_keeps times rank (event.Device other agrees) dt poller e = none_is_not_some dt e
pass_keeps times rank (event.Tick other) dt poller e = none_is_not_some dt e
pass_keeps times rank (event.Stopped other) dt poller e = none_is_not_some dt e
pass_keeps times rank (event.Unstopped other) dt poller e = none_is_not_some dt e
pass_keeps times rank (event.Leave other) dt poller e = none_is_not_some dt e
pass_keeps times rank (event.Feed other) dt poller e = none_is_not_some dt e
pass_keeps times rank (event.Operator other message) dt poller e = none_is_not_some dt e

-- a pass that is allowed with a clock of the arbiter's
pub pass_is : (s : Settings) (t : Timing) (advance : ℕ) (one : Event) (w : ArbiterWorld) → refusal_beside s t (beside.PassWith advance one) w ≡ None
    → (dt : ℕ) × ((pass_of one ≡ Some dt) × ((is_arbiter_on w && is_within_bounds dt advance) ≡ true))
unfolding refusal_beside
pass_is s t advance one w ok =
    let may = (first_allows (may_pass_with advance one w) 15 (refusal s t one w.world) ok).0 in
    let is = value_tested (λ dt. is_arbiter_on w && is_within_bounds dt advance) (pass_of one) may in
    (is.0, (is.1, is.2))

-- what an event is to a rank: nothing, the sending of a poll, or an event of the nodes
pub data RankStep (s : Settings) (times : Lease) (event : ArbiterEvent) (w : ArbiterWorld) (rank : ℕ) (old new : List Moment) (before after : Poller) : Type 0 where
  Idle : new ≡ old → after ≡ before → ((poll : Poll) → poll_sent s event w ≡ Some poll → poll.from.0 ≡ rank → ⊥) → RankStep s times event w rank old new before after
  Sends : (own : Rank) (at : Standing) → own.0 ≡ rank → new ≡ old → standing_at s rank w ≡ Some at → after ≡ with_sent own at before
      → poll_sent s event w ≡ Some (next_poll own at before) → RankStep s times event w rank old new before after
  Acts : (one : Event) → played s event w ≡ Some one → LogMove s rank one old new → PollerMove times rank one before after → poll_sent s event w ≡ None
      → RankStep s times event w rank old new before after

module _ (s : Settings) (t : Timing) (times : Lease) (event : ArbiterEvent) (earlier : List ArbiterEvent) (rank : ℕ) where
  abbrev Step : Poller → Type 0
  Step after =
      RankStep s times event (run_beside s t times earlier) rank (moments_at s t times earlier) (moments_at s t times (event ∷ earlier))
      ((run_beside s t times earlier).pollers rank) after

  acting : (one : Event) (after : Poller) → played s event (run_beside s t times earlier) ≡ Some one → NodeMove s t times event earlier rank
      → PollerMove times rank one ((run_beside s t times earlier).pollers rank) after → poll_sent s event (run_beside s t times earlier) ≡ None → Step after
  acting one after plays' (NoMove none same) moved silent = none_is_not_some one (sym none ∙ plays')
  acting one after plays' (Moves other plays_other moves) moved silent =
      Acts other plays_other moves (subst (λ e. PollerMove times rank e ((run_beside s t times earlier).pollers rank) after) (same_Some one other (sym plays' ∙ plays_other)) moved) silent

  idle : (after : Poller) → played s event (run_beside s t times earlier) ≡ None → NodeMove s t times event earlier rank → after ≡ (run_beside s t times earlier).pollers rank
      → ((poll : Poll) → poll_sent s event (run_beside s t times earlier) ≡ Some poll → poll.from.0 ≡ rank → ⊥) → Step after
  idle after none (NoMove none' same) kept silent = Idle same kept silent
  idle after none (Moves other plays' moves) kept silent = none_is_not_some other (sym none ∙ plays')

  sending : (own : Rank) (at : Standing) (after : Poller) → own.0 ≡ rank → played s event (run_beside s t times earlier) ≡ None → NodeMove s t times event earlier rank
      → standing_at s rank (run_beside s t times earlier) ≡ Some at → after ≡ with_sent own at ((run_beside s t times earlier).pollers rank)
      → poll_sent s event (run_beside s t times earlier) ≡ Some (next_poll own at ((run_beside s t times earlier).pollers rank)) → Step after
  sending own at after is none (NoMove none' same) stands sent gave = Sends own at is same stands sent gave
  sending own at after is none (Moves other plays' moves) stands sent gave = none_is_not_some other (sym none ∙ plays')

-- the poller of a rank after a node polls
polled : (s : Settings) (t : Timing) (times : Lease) (own : Rank) (earlier : List ArbiterEvent) (rank : ℕ) (at : Standing) (b : Bool)
    → standing_at s own.0 (run_beside s t times earlier) ≡ Some at → (own.0 == rank) ≡ b
    → NodeMove s t times (beside.Poll own) earlier rank
    → RankStep s times (beside.Poll own) (run_beside s t times earlier) rank (moments_at s t times earlier) (moments_at s t times (beside.Poll own ∷ earlier))
    ((run_beside s t times earlier).pollers rank) (if b then with_sent own at ((run_beside s t times earlier).pollers own.0) else (run_beside s t times earlier).pollers rank)
unfolding played poll_sent
polled s t times own earlier rank at true stands is moved =
    let same = eqb-true own.0 rank is in
    sending s t times (beside.Poll own) earlier rank own at (with_sent own at ((run_beside s t times earlier).pollers own.0)) same refl moved
    (subst (λ k. standing_at s k (run_beside s t times earlier) ≡ Some at) same stands)
    (ap (λ k. with_sent own at ((run_beside s t times earlier).pollers k)) same)
    (ap (λ o. option_map (λ x. next_poll own x ((run_beside s t times earlier).pollers own.0)) o) stands ∙ ap (λ k. Some (next_poll own at ((run_beside s t times earlier).pollers k))) same)
polled s t times own earlier rank at false stands is moved =
    idle s t times (beside.Poll own) earlier rank ((run_beside s t times earlier).pollers rank) refl moved refl
    (λ poll e from. true≢false (sym (eq-eqb own.0 rank (ap (λ (p : Poll). p.from.0) (same_Some _ _ (sym (ap (λ o. option_map (λ x. next_poll own x ((run_beside s t times earlier).pollers own.0)) o) stands) ∙ e)) ∙ from)) ∙ is))

-- each event that is allowed is one of these to each rank
step_of : (s : Settings) (t : Timing) (times : Lease) (event : ArbiterEvent) (earlier : List ArbiterEvent) (rank : ℕ) → refusal_beside s t event (run_beside s t times earlier) ≡ None
    → NodeMove s t times event earlier rank
    → RankStep s times event (run_beside s t times earlier) rank (moments_at s t times earlier) (moments_at s t times (event ∷ earlier))
    ((run_beside s t times earlier).pollers rank) (pollers_after s times event (run_beside s t times earlier) rank)
unfolding played pollers_after poll_sent
step_of s t times (beside.One one) earlier rank ok moved =
    acting s t times (beside.One one) earlier rank one _ refl moved (poller_move times rank one (run_beside s t times earlier).pollers) refl
step_of s t times (beside.PassWith advance one) earlier rank ok moved =
    acting s t times (beside.PassWith advance one) earlier rank one _ refl moved
    (passing (run_beside s t times earlier) ok) refl
  where
    passing : (w : ArbiterWorld) → refusal_beside s t (beside.PassWith advance one) w ≡ None → PollerMove times rank one (w.pollers rank) (w.pollers rank)
    passing w may =
        let is = pass_is s t advance one w may in
        pass_keeps times rank one is.0 (w.pollers rank) is.1.0
step_of s t times (beside.ArbiterBoot base) earlier rank ok moved =
    idle s t times (beside.ArbiterBoot base) earlier rank _ refl moved refl (λ poll e from. none_is_not_some poll e)
step_of s t times beside.ArbiterCrash earlier rank ok moved =
    idle s t times beside.ArbiterCrash earlier rank _ refl moved refl (λ poll e from. none_is_not_some poll e)
step_of s t times (beside.Hear number) earlier rank ok moved =
    idle s t times (beside.Hear number) earlier rank _ refl moved refl (λ poll e from. none_is_not_some poll e)
step_of s t times (beside.Reply number) earlier rank ok moved =
    let it = reply_there s t number (run_beside s t times earlier) ok in
    acting s t times (beside.Reply number) earlier rank (reply_event s (run_beside s t times earlier) it.0) _
    (ap (λ o. option_map (reply_event s (run_beside s t times earlier)) o) it.1) moved (device_keeps times rank it.0.to _ ((run_beside s t times earlier).pollers rank)) refl
step_of s t times (beside.Poll own) earlier rank ok moved =
    let it = poll_there s t own (run_beside s t times earlier) ok in
    subst (λ o. RankStep s times (beside.Poll own) (run_beside s t times earlier) rank (moments_at s t times earlier) (moments_at s t times (beside.Poll own ∷ earlier))
    ((run_beside s t times earlier).pollers rank) (option_map_or (λ at. put (run_beside s t times earlier).pollers own.0 (with_sent own at ((run_beside s t times earlier).pollers own.0))) o (run_beside s t times earlier).pollers rank))
    (sym it.1) (polled s t times own earlier rank it.0 (own.0 == rank) it.1 refl moved)

pub rank_step : {s : Settings} {t : Timing} {times : Lease} {event : ArbiterEvent} {earlier : List ArbiterEvent} → Below → IsRun s t times (event ∷ earlier) → (rank : ℕ)
    → RankStep s times event (run_beside s t times earlier) rank (moments_at s t times earlier) (moments_at s t times (event ∷ earlier))
    ((run_beside s t times earlier).pollers rank) ((run_beside s t times (event ∷ earlier)).pollers rank)
rank_step {s = s} {t = t} {times = times} {event = event} {earlier = earlier} law run rank =
    subst (λ pollers. RankStep s times event (run_beside s t times earlier) rank (moments_at s t times earlier) (moments_at s t times (event ∷ earlier))
    ((run_beside s t times earlier).pollers rank) (pollers rank)) (sym (pollers_now s t times event earlier))
    (step_of s t times event earlier rank (newest_allowed run).ok (node_move law run rank))

-- What a running arbiter remembers, and how its clock runs beside true time.
use Rattle.std.proofs.Common.{◌≡◌, ℕ, ◌+◌, ◌*◌, ◌≤◌, true, List, [], ◌∷◌, Some, None, Option, refl, sym, ap, ◌∙◌, subst, arith, ◌&&◌, ◌⊎◌, inl, inr, unwrap_or, nat_le}
use Rattle.std.specs.Option.{option_map, option_map_or}
use Rattle.std.proofs.lemmas.Bool.{leb-true}
use Rattle.qn_model.specs.declared.configuration.Settings.{Settings}
use Rattle.qn_model.specs.declared.events.Event.{Event}
use Rattle.qn_model.specs.declared.events.Event.TheVariants as event
use Rattle.qn_model.specs.declared.entries.What.{What}
use Rattle.qn_model.specs.declared.outputs.DiskOp.{DiskOp}
use Rattle.qn_model.specs.declared.packets.Sent.{Sent}
use Rattle.qn_model.specs.declared.times.Timing.{Timing}
use Rattle.qn_model.specs.Moments.{Before, Itself, Later, Moment, packets, time, Adds}
use Rattle.qn_model.specs.Rules.{is_within_bounds}
use Rattle.qn_model.specs.Steps.{answered, entry_of, fails, happens, landed, lands_late, step}
use Rattle.qn_model.specs.World.{World, numbered, op_at}
use Rattle.qn_safety.specs.declared.arbiter_event.ArbiterEvent.{ArbiterEvent}
use Rattle.qn_safety.specs.declared.arbiter_event.ArbiterEvent.TheVariants as beside
use Rattle.qn_safety.specs.declared.lease.Lease.{Lease}
use Rattle.qn_safety.specs.declared.polls.Poll.{Poll}
use Rattle.qn_safety.specs.Arbiter.{HeardPoll, gives_yes}
use Rattle.qn_safety.specs.ArbiterWorld.{Arbiter, ArbiterWorld, arbiter_tick, poll_at}
use Rattle.qn_safety.specs.ArbiterRules.{is_arbiter_on, pass_of, refusal_beside}
use Rattle.qn_safety.specs.ArbiterSteps.{advanced_arbiter, arbiter_after, booted_arbiter, hearing, played, run_beside, world_after}
use Rattle.qn_safety.proofs.ArbiterBelow.{Below}
use Rattle.qn_safety.proofs.ArbiterTools.{before_length, before_then, newest_state}
use Rattle.qn_safety.proofs.ArbiterMemories.{WasHeard, NoPoll, OnePoll, newest_tick}
use Rattle.qn_safety.proofs.ArbiterPlaying.{IsRun, NoEvent, OneEvent, Hears, arbiter_now, hear_there, moments_at, moments_grow, newest_allowed, world_now}
use Rattle.qn_safety.proofs.ArbiterSendings.{pass_is}
use Rattle.qn_safety.proofs.ArbiterStandings.{SentFrom, was_sent}
use Rattle.std.specs.Prelude.{slice_get}
use Rattle.std.proofs.lemmas.Option.{same_Some}
use Rattle.qn_base.specs.lemmas.Options.{none_is_not_some}
use Rattle.qn_base.specs.lemmas.Bools.{second_of_both}

-- what an event is to the arbiter that runs behind it
pub data ArbiterMove (s : Settings) (t : Timing) (times : Lease) (event : ArbiterEvent) (w : ArbiterWorld) (after : Arbiter) : Type 0 where
  -- its clock advances, by at most 101 hundredths for each millisecond that passes
  Advances : (before : Arbiter) (advance : ℕ) → w.arbiter ≡ Some before → after ≡ advanced_arbiter advance before
      → advance + 101 * time w.world.moments ≤ 101 * time (world_after s t event w).moments → ArbiterMove s t times event w after
  -- it boots
  Starts : (base : ℕ) → after ≡ booted_arbiter times.lease base → ArbiterMove s t times event w after
  -- it hears a poll
  Listens : (number : ℕ) (before : Arbiter) (poll : Poll) → event ≡ beside.Hear number → w.arbiter ≡ Some before → poll_at number w ≡ Some poll → after ≡ hearing poll before
      → ArbiterMove s t times event w after

-- true time passes at a pass alone
pass_time : (s : Settings) (t : Timing) (one : Event) (w : World) → time w.moments + unwrap_or (pass_of one) 0 ≡ time (step s t one w).moments
unfolding time step
pass_time s t (event.Pass dt clocks) w = refl
pass_time s t (event.Boot rank base) w = omega arith
pass_time s t (event.BootClean rank base) w = omega arith
pass_time s t (event.Crash rank) w = omega arith
pass_time s t (event.View rank seen) w = omega arith
pass_time s t (event.Device rank agrees) w = omega arith
pass_time s t (event.Tick rank) w = omega arith
pass_time s t (event.Stopped rank) w = omega arith
pass_time s t (event.Unstopped rank) w = omega arith
pass_time s t (event.Leave rank) w = omega arith
pass_time s t (event.Feed rank) w = omega arith
pass_time s t (event.Operator rank message) w = omega arith
pass_time s t (event.Land rank) w = by_op (op_at s rank.0 w)
  where
    by_op : (o : Option DiskOp) → time w.moments + 0 ≡ time (option_map_or (λ op. landed s t rank.0 op w) o w).moments
    by_op None = omega arith
    by_op (Some op) = omega arith
pass_time s t (event.Done rank) w = by_took (w.took rank.0)
  where
    by_took : (o : Option What) → time w.moments + 0 ≡ time (option_map_or (λ entry. answered rank.0 entry w) o w).moments
    by_took None = omega arith
    by_took (Some entry) = unfold time in (omega arith)
pass_time s t (event.Fail rank) w = by_op (op_at s rank.0 w)
  where
    by_op : (o : Option DiskOp) → time w.moments + 0 ≡ time (option_map_or (λ op. fails s rank.0 op w) o w).moments
    by_op None = omega arith
    by_op (Some op) = unfold time in (omega arith)
pass_time s t (event.Late rank number) w = by_op (numbered (w.left rank.0) number)
  where
    by_op : (o : Option DiskOp) → time w.moments + 0 ≡ time (option_map_or (λ op. lands_late rank.0 number op w) o w).moments
    by_op None = omega arith
    by_op (Some op) = omega arith
pass_time s t (event.Deliver rank number) w = by_sent (slice_get (packets s w.moments) number)
  where
    by_sent : (o : Option Sent) → time w.moments + 0 ≡ time (option_map_or (λ sent. happens (Adds rank.0 (entry_of sent.packet)) w) o w).moments
    by_sent None = omega arith
    by_sent (Some sent) = unfold time in (omega arith)

advances : (s : Settings) (t : Timing) (times : Lease) (event : ArbiterEvent) (w : ArbiterWorld) (advance : ℕ) (o : Option Arbiter) (after : Arbiter) → w.arbiter ≡ o
    → option_map (advanced_arbiter advance) o ≡ Some after → advance + 101 * time w.world.moments ≤ 101 * time (world_after s t event w).moments → ArbiterMove s t times event w after
advances s t times event w advance None after was is bound = none_is_not_some after is
advances s t times event w advance (Some before) after was is bound = Advances before advance was (sym (same_Some (advanced_arbiter advance before) after is)) bound

stands_still : (s : Settings) (t : Timing) (times : Lease) (event : ArbiterEvent) (w : ArbiterWorld) (after : Arbiter) → w.arbiter ≡ Some after
    → time w.world.moments ≤ time (world_after s t event w).moments → ArbiterMove s t times event w after
stands_still s t times event w after was bound = Advances after 0 was (ap (λ n. record after { clock = n }) (plus_zero after.clock)) (omega arith)
  where
    plus_zero : (n : ℕ) → n ≡ n + 0
    plus_zero n = omega arith

heard_move : (s : Settings) (t : Timing) (times : Lease) (number : ℕ) (w : ArbiterWorld) (after : Arbiter) → (it : Hears number w)
    → option_map_or (λ poll. option_map (hearing poll) w.arbiter) (poll_at number w) w.arbiter ≡ Some after → ArbiterMove s t times (beside.Hear number) w after
heard_move s t times number w after it is =
    Listens number it.arbiter it.poll refl it.runs it.there
    (sym (same_Some (hearing it.poll it.arbiter) after
    (sym (ap (λ o. option_map_or (λ poll. option_map (hearing poll) w.arbiter) o w.arbiter) it.there ∙ ap (λ a. option_map (hearing it.poll) a) it.runs) ∙ is)))

arbiter_move : (s : Settings) (t : Timing) (times : Lease) (event : ArbiterEvent) (w : ArbiterWorld) (after : Arbiter) → refusal_beside s t event w ≡ None
    → time w.world.moments ≤ time (world_after s t event w).moments → arbiter_after times event w ≡ Some after → ArbiterMove s t times event w after
unfolding arbiter_after played
arbiter_move s t times (beside.One one) w after ok later is =
    advances s t times (beside.One one) w (100 * unwrap_or (pass_of one) 0) w.arbiter after refl is (let p = pass_time s t one w.world in omega arith)
arbiter_move s t times (beside.PassWith advance one) w after ok later is = passing (pass_is s t advance one w ok)
  where
    passing : (dt : ℕ) × ((pass_of one ≡ Some dt) × ((is_arbiter_on w && is_within_bounds dt advance) ≡ true)) → ArbiterMove s t times (beside.PassWith advance one) w after
    passing may =
        let within = second_of_both (is_arbiter_on w) (is_within_bounds may.0 advance) may.1.1 in
        let most = leb-true advance (101 * may.0) (second_of_both (nat_le (99 * may.0) advance) (nat_le advance (101 * may.0)) within) in
        let passes : unwrap_or (pass_of one) 0 ≡ may.0 = ap (λ o. unwrap_or o 0) may.1.0 in
        let p = pass_time s t one w.world in
        unfold played in advances s t times (beside.PassWith advance one) w advance w.arbiter after refl is (omega arith)
arbiter_move s t times (beside.ArbiterBoot base) w after ok later is = Starts base (sym (same_Some (booted_arbiter times.lease base) after is))
arbiter_move s t times beside.ArbiterCrash w after ok later is = none_is_not_some after is
arbiter_move s t times (beside.Poll rank) w after ok later is = stands_still s t times (beside.Poll rank) w after is later
arbiter_move s t times (beside.Hear number) w after ok later is = heard_move s t times number w after (hear_there s t number w ok) is
arbiter_move s t times (beside.Reply number) w after ok later is = stands_still s t times (beside.Reply number) w after is later

pub arbiter_step : {s : Settings} {t : Timing} {times : Lease} {event : ArbiterEvent} {earlier : List ArbiterEvent} → Below → IsRun s t times (event ∷ earlier) → (after : Arbiter)
    → (run_beside s t times (event ∷ earlier)).arbiter ≡ Some after → ArbiterMove s t times event (run_beside s t times earlier) after
arbiter_step {s = s} {t = t} {times = times} {event = event} {earlier = earlier} law run after is =
    let later = law.time (moments_at s t times earlier) (moments_at s t times (event ∷ earlier)) (moments_grow law run (Later event Itself)) in
    arbiter_move s t times event (run_beside s t times earlier) after (newest_allowed run).ok
    (subst (λ (x : World). time (moments_at s t times earlier) ≤ time x.moments) (world_now s t times event earlier) later)
    (sym (arbiter_now s t times event earlier) ∙ is)

-- what a running arbiter remembers: the lease is that of the run, each poll was answered by those before it, and was sent
pub record Remembers (s : Settings) (times : Lease) (moments : List Moment) (arbiter : Arbiter) : Type 0 where
  pub lease : arbiter.memory.lease ≡ times.lease
  pub was : WasHeard arbiter.memory.lease arbiter.memory.began arbiter.memory.heard
  pub order : newest_tick arbiter.memory.heard ≤ arbiter_tick arbiter
  pub sent : (heard : HeardPoll) (rest : List HeardPoll) → Before (heard ∷ rest) arbiter.memory.heard
      → (at : List Moment) × (Before at moments × SentFrom s heard.poll.from.0 heard.poll at)

nothing_before : {A : Type 0} {P : Type 0} (x : A) (xs : List A) → Before (x ∷ xs) [] → P
nothing_before x xs back = absurd (let long = before_length back in omega arith)

pub remembers : {s : Settings} {t : Timing} {times : Lease} {events : List ArbiterEvent} → Below → IsRun s t times events → (arbiter : Arbiter)
    → (run_beside s t times events).arbiter ≡ Some arbiter → Remembers s times (moments_at s t times events) arbiter
unfolding run_beside
remembers law NoEvent arbiter is = none_is_not_some arbiter is
remembers {s = s} {t = t} {times = times} law (OneEvent {event = event} {earlier = earlier} form ok run) arbiter is =
    by_move (arbiter_step law (OneEvent form ok run) arbiter is) (λ before runs. remembers law run before runs)
  where
    w : ArbiterWorld
    w = run_beside s t times earlier

    new : List Moment
    new = moments_at s t times (event ∷ earlier)

    grows : Before w.world.moments new
    grows = moments_grow law (OneEvent form ok run) (Later event Itself)

    later : {before : Arbiter} → Remembers s times w.world.moments before → (heard : HeardPoll) (rest : List HeardPoll) → Before (heard ∷ rest) before.memory.heard
        → (at : List Moment) × (Before at new × SentFrom s heard.poll.from.0 heard.poll at)
    later was heard rest back = let it = was.sent heard rest back in (it.0, (before_then it.1.0 grows, it.1.1))

    head_of : (x y : HeardPoll) (xs ys : List HeardPoll) → x ∷ xs ≡ y ∷ ys → y ≡ x
    head_of x y xs ys e = cc

    by_move : ArbiterMove s t times event w arbiter → ((before : Arbiter) → w.arbiter ≡ Some before → Remembers s times w.world.moments before) → Remembers s times new arbiter
    by_move (Advances before advance runs e bound) rest =
        let was = rest before runs in
        let order = was.order in
        subst (λ a. Remembers s times new a) (sym e) (record { lease = was.lease; was = was.was; order = omega arith; sent = later was })
    by_move (Starts base e) rest =
        subst (λ a. Remembers s times new a) (sym e) (record { lease = refl; was = NoPoll; order = omega arith; sent = λ heard others back. nothing_before heard others back })
    by_move (Listens number before poll is_hear runs there e) rest =
        let was = rest before runs in
        let heard_one : HeardPoll = record { tick = arbiter_tick before; poll = poll; agrees = gives_yes before.memory (arbiter_tick before) poll } in
        let it = was_sent law run number poll there in
        let from_newest : (heard : HeardPoll) (others : List HeardPoll) → (heard ∷ others ≡ heard_one ∷ before.memory.heard) ⊎ Before (heard ∷ others) before.memory.heard
        → (at : List Moment) × (Before at new × SentFrom s heard.poll.from.0 heard.poll at) =
        λ heard others either. by_either was heard others heard_one (it.sent, (before_then it.numbered.back grows, it.from)) either in
        subst (λ a. Remembers s times new a) (sym e) (record {
          lease = was.lease;
          was = OnePoll refl was.order was.was;
          order = omega arith;
          sent = λ heard others back. from_newest heard others (newest_state back);
        })
      where
        by_either : {prior : Arbiter} → Remembers s times w.world.moments prior → (heard : HeardPoll) (others : List HeardPoll) (newest : HeardPoll)
            → ((at : List Moment) × (Before at new × SentFrom s newest.poll.from.0 newest.poll at))
            → (heard ∷ others ≡ newest ∷ prior.memory.heard) ⊎ Before (heard ∷ others) prior.memory.heard
            → (at : List Moment) × (Before at new × SentFrom s heard.poll.from.0 heard.poll at)
        by_either was heard others newest it (inl same) = subst (λ (h : HeardPoll). (at : List Moment) × (Before at new × SentFrom s h.poll.from.0 h.poll at)) (head_of heard newest others _ same) it
        by_either was heard others newest it (inr more) = later was heard others more

-- An arbiter that ran at some events, or not, and runs at later ones: it was booted since, or remembers what it remembered; and
-- its clock kept its bound.
pub data Lived (old : ℕ) (before : Option Arbiter) (now : ℕ) (after : Arbiter) : Type 0 where
  Booted : after.clock + 101 * old ≤ 101 * now + (100 * after.memory.began + 99) → Lived old before now after
  Remained : (was : Arbiter) → before ≡ Some was → Before was.memory.heard after.memory.heard → after.clock + 101 * old ≤ 101 * now + was.clock → Lived old before now after

pub lived : {s : Settings} {t : Timing} {times : Lease} {old new : List ArbiterEvent} → Below → IsRun s t times new → Before old new → (after : Arbiter)
    → (run_beside s t times new).arbiter ≡ Some after
    → Lived (time (moments_at s t times old)) (run_beside s t times old).arbiter (time (moments_at s t times new)) after
lived law run Itself after is = Remained after is Itself (omega arith)
lived {s = s} {t = t} {times = times} {old = old} law (OneEvent {event = event} {earlier = earlier} form ok run) (Later newest more) after is =
    by_move (arbiter_step law (OneEvent form ok run) after is) (λ before runs. lived law run more before runs)
  where
    w : ArbiterWorld
    w = run_beside s t times earlier

    then_time : ℕ
    then_time = time (moments_at s t times old)

    now : ℕ
    now = time (moments_at s t times (event ∷ earlier))

    whole : IsRun s t times (event ∷ earlier)
    whole = OneEvent form ok run

    world_time : time (world_after s t event w).moments ≡ now
    world_time = ap (λ (x : World). time x.moments) (sym (world_now s t times event earlier))

    from_old : then_time ≤ now
    from_old = law.time (moments_at s t times old) (moments_at s t times (event ∷ earlier)) (moments_grow law whole (Later event more))

    from_earlier : time w.world.moments ≤ now
    from_earlier = law.time w.world.moments (moments_at s t times (event ∷ earlier)) (moments_grow law whole (Later event Itself))

    advanced : (before : Arbiter) (advance : ℕ) → advance + 101 * time w.world.moments ≤ 101 * time (world_after s t event w).moments
        → Lived then_time (run_beside s t times old).arbiter (time w.world.moments) before
        → Lived then_time (run_beside s t times old).arbiter now (advanced_arbiter advance before)
    advanced before advance bound (Booted clock) = let e = world_time in Booted (omega arith)
    advanced before advance bound (Remained was runs kept clock) = let e = world_time in Remained was runs kept (omega arith)

    heard : (before : Arbiter) (poll : Poll) → Lived then_time (run_beside s t times old).arbiter (time w.world.moments) before
        → Lived then_time (run_beside s t times old).arbiter now (hearing poll before)
    heard before poll (Booted clock) = let e = from_earlier in Booted (omega arith)
    heard before poll (Remained was runs kept clock) = let e = from_earlier in Remained was runs (Later _ kept) (omega arith)

    by_move : ArbiterMove s t times event w after
        → ((before : Arbiter) → w.arbiter ≡ Some before → Lived then_time (run_beside s t times old).arbiter (time w.world.moments) before)
        → Lived then_time (run_beside s t times old).arbiter now after
    by_move (Advances before advance runs e bound) rest =
        subst (λ a. Lived then_time (run_beside s t times old).arbiter now a) (sym e) (advanced before advance bound (rest before runs))
    by_move (Starts base e) rest =
        subst (λ a. Lived then_time (run_beside s t times old).arbiter now a) (sym e) (let p = from_old in Booted (omega arith))
    by_move (Listens number before poll is_hear runs there e) rest =
        subst (λ a. Lived then_time (run_beside s t times old).arbiter now a) (sym e) (heard before poll (rest before runs))

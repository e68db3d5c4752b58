-- One event more of the world beside an arbiter, by the event of the nodes that it plays.
use Rattle.std.proofs.Common.{◌≡◌, ℕ, Bool, true, false, not, ◌+◌, ◌*◌, ◌&&◌, ◌==◌, List, [], ◌∷◌, ◌++◌, Option, None, Some, is_some, unwrap_or, refl, sym, ap, subst, ◌∙◌, arith}
use Rattle.std.specs.Prelude.{Contains, ◌<◌, length}
use Rattle.std.proofs.lemmas.Bool.{lt-ltb}
use Rattle.std.specs.Option.{option_map, option_map_or, option_or, option_to_list}
use Rattle.std.proofs.lemmas.List.{append-nil}
use Rattle.std.proofs.lemmas.Option.{slice_get-get_or}
use Rattle.qn_base.specs.declared.ids.Rank.{Rank}
use Rattle.qn_model.specs.declared.configuration.Settings.{Settings}
use Rattle.qn_model.specs.declared.times.Timing.{Timing}
use Rattle.qn_model.specs.declared.entries.What.{What}
use Rattle.qn_model.specs.declared.entries.What.TheVariants as what
use Rattle.qn_model.specs.declared.events.Event.{Event}
use Rattle.qn_model.specs.declared.events.Event.TheVariants as event
use Rattle.qn_model.specs.lemmas.Moments.{put_other, put_same}
use Rattle.qn_model.specs.lemmas.Rules.{running_allowed}
use Rattle.qn_model.specs.Moments.{tick_of}
use Rattle.qn_model.specs.Rules.{is_on, is_within_bounds, refusal, unless}
use Rattle.qn_model.specs.Steps.{run, step}
use Rattle.qn_model.specs.Wanted.{rank_of}
use Rattle.qn_model.specs.World.{node_at, put}
use Rattle.qn_safety.specs.declared.arbiter_event.ArbiterEvent.{ArbiterEvent}
use Rattle.qn_safety.specs.declared.arbiter_event.ArbiterEvent.TheVariants as beside
use Rattle.qn_safety.specs.declared.lease.Lease.{Lease}
use Rattle.qn_safety.specs.declared.polls.Poll.{Poll}
use Rattle.qn_safety.specs.declared.polls.Reply.{Reply}
use Rattle.qn_safety.specs.AnyNumbers.{AllMay}
use Rattle.qn_safety.specs.ArbiterNumbers.{AllMayBeside, is_ranked_beside}
use Rattle.qn_safety.specs.ArbiterRules.{is_yes_of_device, pass_of, refusal_beside}
use Rattle.qn_safety.specs.ArbiterSteps.{advanced_arbiter, arbiter_after, booted_arbiter, device_event, hearing, reply_to, played, poll_sent, pollers_after, pollers_with, reply_event, reply_sent, run_beside, step_beside}
use Rattle.qn_safety.specs.ArbiterWorld.{Arbiter, ArbiterWorld, poll_at, reply_at, standing_at}
use Rattle.qn_safety.specs.Poller.{Poller, Standing, answer_taken, fresh_poller, next_poll, with_sent, without_last}
use Rattle.qn_joined.specs.Moves.{Hands, Nothing, Plainly, AView, AnAnswer, boot_event, is_plain}
use Rattle.qn_beside.proofs.Pollers.{Leaves, AsItWas, Forgets}

-- further events beside an arbiter, after which the nodes are those after these events of theirs, and nothing more was polled or answered
pub record Goes (s : Settings) (t : Timing) (times : Lease) (w : ArbiterWorld) (met : List Event) (arbiter : Option Arbiter) (pollers : ℕ → Poller) : Type 0 where
  pub events : List ArbiterEvent
  pub may : AllMayBeside s t times events
  pub same : (run_beside s t times events).world ≡ run s t met
  pub arbiter_is : (run_beside s t times events).arbiter ≡ arbiter
  pub pollers_are : (rank : ℕ) → (run_beside s t times events).pollers rank ≡ pollers rank
  pub polls : (run_beside s t times events).polls ≡ w.polls
  pub replies : (run_beside s t times events).replies ≡ w.replies

-- what an entry, if one is handed, leaves of the poller of its rank
abbrev pub LeftBy : Option What → Poller → Poller → Type 0
LeftBy None world after = after ≡ world
LeftBy (Some entry) world after = Leaves entry world after

left_alone : (entry : Option What) (world : Poller) → LeftBy entry world world
left_alone None world = refl
left_alone (Some entry) world = AsItWas refl

-- an event that touches no poller and no arbiter
record IsQuiet (times : Lease) (of : Event) : Type 0 where
  pass : pass_of of ≡ None
  granted : is_yes_of_device of ≡ false
  pollers : (pollers : ℕ → Poller) → pollers_with times of pollers ≡ pollers

quiet : (times : Lease) (of : Event) → is_plain of ≡ true → IsQuiet times of
quiet times (event.Pass dt clocks) e = absurd cc
quiet times (event.Boot rank base) e = absurd cc
quiet times (event.BootClean rank base) e = absurd cc
quiet times (event.View rank view) e = absurd cc
quiet times (event.Device rank agrees) e = absurd cc
quiet times (event.Crash rank) e = record { pass = refl; granted = refl; pollers = λ p. refl }
quiet times (event.Land rank) e = record { pass = refl; granted = refl; pollers = λ p. refl }
quiet times (event.Done rank) e = record { pass = refl; granted = refl; pollers = λ p. refl }
quiet times (event.Fail rank) e = record { pass = refl; granted = refl; pollers = λ p. refl }
quiet times (event.Late rank number) e = record { pass = refl; granted = refl; pollers = λ p. refl }
quiet times (event.Deliver rank number) e = record { pass = refl; granted = refl; pollers = λ p. refl }
quiet times (event.Tick rank) e = record { pass = refl; granted = refl; pollers = λ p. refl }
quiet times (event.Stopped rank) e = record { pass = refl; granted = refl; pollers = λ p. refl }
quiet times (event.Unstopped rank) e = record { pass = refl; granted = refl; pollers = λ p. refl }
quiet times (event.Leave rank) e = record { pass = refl; granted = refl; pollers = λ p. refl }
quiet times (event.Feed rank) e = record { pass = refl; granted = refl; pollers = λ p. refl }
quiet times (event.Operator rank sent) e = record { pass = refl; granted = refl; pollers = λ p. refl }

-- an arbiter whose clock advances by nothing is the same
stands_still : (a : Option Arbiter) → option_map (advanced_arbiter (100 * 0)) a ≡ a
stands_still None = refl
stands_still (Some arbiter) =
    let same : arbiter.clock + 100 * 0 ≡ arbiter.clock = omega arith in
    ap (λ k. Some (record { clock = k; memory = arbiter.memory })) same

module _ (s : Settings) (t : Timing) (times : Lease) (events : List ArbiterEvent) (met : List Event) (may : AllMayBeside s t times events)
    (same : (run_beside s t times events).world ≡ run s t met) where
  abbrev w : ArbiterWorld
  w = run_beside s t times events

  -- no event
  pub stays : Goes s t times w met w.arbiter w.pollers
  stays = record { events = events; may = may; same = same; arbiter_is = refl; pollers_are = λ r. refl; polls = refl; replies = refl }

  -- an event of the nodes
  pub one_goes : (of : Event) → is_yes_of_device of ≡ false → AllMay s t (of ∷ met)
      → Goes s t times w (of ∷ met) (option_map (advanced_arbiter (100 * unwrap_or (pass_of of) 0)) w.arbiter) (pollers_with times of w.pollers)
  unfolding run_beside step_beside played arbiter_after pollers_after poll_sent reply_sent AllMayBeside AllMay refusal_beside is_ranked_beside run
  one_goes of never all = record {
    events = beside.One of ∷ events;
    may = (all.0, ap (λ b. option_or (unless (not b) 11) (refusal s t of w.world)) never ∙ ap (λ x. refusal s t of x) same ∙ all.1, may);
    same = ap (λ x. step s t of x) same;
    arbiter_is = refl;
    pollers_are = λ r. refl;
    polls = append-nil w.polls;
    replies = append-nil w.replies;
  }

  -- with the arbiter and the pollers as they are said to be
  as_said : {after : List Event} {arbiter arbiter' : Option Arbiter} {pollers pollers' : ℕ → Poller} → Goes s t times w after arbiter pollers → arbiter ≡ arbiter' → ((r : ℕ) → pollers r ≡ pollers' r)
      → Goes s t times w after arbiter' pollers'
  as_said g arbiter_same pollers_same = record {
    events = g.events;
    may = g.may;
    same = g.same;
    arbiter_is = g.arbiter_is ∙ arbiter_same;
    pollers_are = λ r. g.pollers_are r ∙ pollers_same r;
    polls = g.polls;
    replies = g.replies;
  }

  still : (of : Event) → pass_of of ≡ None → option_map (advanced_arbiter (100 * unwrap_or (pass_of of) 0)) w.arbiter ≡ w.arbiter
  still of none = ap (λ o. option_map (advanced_arbiter (100 * unwrap_or o 0)) w.arbiter) none ∙ stands_still w.arbiter

  -- a plain event
  pub plain_goes : (of : Event) → is_plain of ≡ true → AllMay s t (of ∷ met) → Goes s t times w (of ∷ met) w.arbiter w.pollers
  plain_goes of plain all =
      let q = quiet times of plain in
      as_said (one_goes of q.granted all) (still of q.pass) (λ r. ap (λ f. f r) (q.pollers w.pollers))

  -- a boot
  pub boot_goes : (rank base : ℕ) (clean : Bool) → AllMay s t (boot_event rank base clean ∷ met)
      → Goes s t times w (boot_event rank base clean ∷ met) w.arbiter (put w.pollers rank (fresh_poller times.limit))
  boot_goes rank base false all = as_said (one_goes (event.Boot (rank_of rank) base) refl all) (still (event.Boot (rank_of rank) base) refl) (λ r. refl)
  boot_goes rank base true all = as_said (one_goes (event.BootClean (rank_of rank) base) refl all) (still (event.BootClean (rank_of rank) base) refl) (λ r. refl)

  -- the device's yes, which is a reply that the poller takes
  pub reply_goes : (rank number : ℕ) (reply : Reply) (agrees : Bool) → reply_at number w ≡ Some reply → reply.to.0 ≡ rank
      → answer_taken (tick_of (node_at s rank w.world).clock) reply (w.pollers rank) ≡ Some agrees
      → AllMay s t (event.Device (rank_of rank) agrees ∷ met) → Goes s t times w (event.Device (rank_of rank) agrees ∷ met) w.arbiter w.pollers
  unfolding run_beside step_beside played arbiter_after pollers_after poll_sent reply_sent AllMayBeside AllMay refusal_beside is_ranked_beside run refusal
  reply_goes rank number reply agrees there to takes all = record {
    events = beside.Reply number ∷ events;
    may = (
      refl,
      ap (λ o. unless (option_map_or (λ (r : Reply). is_on s r.to.0 w.world) o false) 14) there
          ∙ ap (λ k. unless (is_on s k w.world) 14) to
          ∙ ap (λ b. unless b 14) (ap (λ x. is_on s rank x) same ∙ running_allowed (is_on s rank (run s t met)) None all.1),
      may,
    );
    same =
        ap (λ o. option_map_or (λ one. step s t one w.world) (option_map (reply_event s w) o) w.world) there
        ∙ ap (λ one. step s t one w.world) is
        ∙ ap (λ x. step s t (event.Device (rank_of rank) agrees) x) same;
    arbiter_is = refl;
    pollers_are = λ r. refl;
    polls = append-nil w.polls;
    replies = append-nil w.replies;
  }
    where
      is : reply_event s w reply ≡ event.Device (rank_of rank) agrees
      is =
          ap (λ k. device_event reply.to (answer_taken (tick_of (node_at s k w.world).clock) reply (w.pollers k))) to
          ∙ ap (λ o. device_event reply.to o) takes
          ∙ ap (λ k. event.Device (rank_of k) agrees) to

  -- what an entry leaves of the poller of its rank, and of the others
  pub record Hears (rank : ℕ) (entry : Option What) (after : List Event) : Type 0 where
    pub pollers : ℕ → Poller
    pub goes : Goes s t times w after w.arbiter pollers
    pub own : LeftBy entry (w.pollers rank) (pollers rank)
    pub others : (r : ℕ) → (rank == r) ≡ false → pollers r ≡ w.pollers r

  -- a yes of the device that is handed is a reply which the world's poller takes
  abbrev pub TakesYes : ℕ → Option What → Type 0
  TakesYes rank entry =
      (agrees : Bool) → entry ≡ Some (what.Device agrees)
      → (reply : Reply) × Contains w.replies reply × (reply.to.0 ≡ rank) × (answer_taken (tick_of (node_at s rank w.world).clock) reply (w.pollers rank) ≡ Some agrees)

  kept : {rank : ℕ} {entry : Option What} {after : List Event} → Goes s t times w after w.arbiter w.pollers → Hears rank entry after
  kept {rank} {entry} g = record { pollers = w.pollers; goes = g; own = left_alone entry (w.pollers rank); others = λ r apart. refl }

  pub hears : (rank : ℕ) (entry : Option What) (found : Option Event) → Hands rank entry found → AllMay s t (option_to_list found ++ met) → TakesYes rank entry
      → Hears rank entry (option_to_list found ++ met)
  hears rank entry found Nothing all granted = kept stays
  hears rank entry found (Plainly {of = of} plain) all granted = kept (plain_goes of plain all)
  hears rank entry found (AView view is) all granted = record {
    pollers = put w.pollers rank (without_last (w.pollers rank));
    goes = as_said (one_goes (event.View (rank_of rank) view) refl all) (still (event.View (rank_of rank) view) refl) (λ r. refl);
    own = subst (λ p. LeftBy entry (w.pollers rank) p) (sym (put_same w.pollers rank (without_last (w.pollers rank))))
        (subst (λ o. LeftBy o (w.pollers rank) (without_last (w.pollers rank))) (sym is) (Forgets refl refl));
    others = λ r apart. put_other w.pollers rank r (without_last (w.pollers rank)) apart;
  }
  hears rank entry found (AnAnswer agrees is) all granted =
      let it = granted agrees is in
      kept (reply_goes rank it.1.0 it.0 agrees (slice_get-get_or w.replies it.1.0 it.0 it.1.1 ∙ ap Some it.1.2) it.2 it.3 all)

-- a node of this rank polled, and showed this
pub record PollGoes (s : Settings) (t : Timing) (times : Lease) (w : ArbiterWorld) (rank : ℕ) (at : Standing) (met : List Event) : Type 0 where
  pub events : List ArbiterEvent
  pub may : AllMayBeside s t times events
  pub same : (run_beside s t times events).world ≡ run s t met
  pub arbiter_is : (run_beside s t times events).arbiter ≡ w.arbiter
  pub own : (run_beside s t times events).pollers rank ≡ with_sent (rank_of rank) at (w.pollers rank)
  pub others : (r : ℕ) → (rank == r) ≡ false → (run_beside s t times events).pollers r ≡ w.pollers r
  pub polls : (run_beside s t times events).polls ≡ w.polls ++ next_poll (rank_of rank) at (w.pollers rank) ∷ []
  pub replies : (run_beside s t times events).replies ≡ w.replies

pub poll_goes : (s : Settings) (t : Timing) (times : Lease) (events : List ArbiterEvent) (met : List Event) → AllMayBeside s t times events
    → (run_beside s t times events).world ≡ run s t met → (rank : ℕ) (at : Standing) → rank < length s.nodes
    → standing_at s rank (run_beside s t times events) ≡ Some at → PollGoes s t times (run_beside s t times events) rank at met
unfolding run_beside step_beside played arbiter_after pollers_after poll_sent reply_sent AllMayBeside refusal_beside is_ranked_beside
poll_goes s t times events met may same rank at below stands = record {
  events = beside.Poll (rank_of rank) ∷ events;
  may = (lt-ltb rank (length s.nodes) below, ap (λ o. unless (is_some o) 13) stands, may);
  same = same;
  arbiter_is = refl;
  own = ap (λ o. option_map_or (λ x. put w.pollers rank (with_sent (rank_of rank) x (w.pollers rank))) o w.pollers rank) stands
      ∙ put_same w.pollers rank (with_sent (rank_of rank) at (w.pollers rank));
  others = λ r apart. ap (λ o. option_map_or (λ x. put w.pollers rank (with_sent (rank_of rank) x (w.pollers rank))) o w.pollers r) stands
      ∙ put_other w.pollers rank r (with_sent (rank_of rank) at (w.pollers rank)) apart;
  polls = ap (λ o. w.polls ++ option_to_list (option_map (λ x. next_poll (rank_of rank) x (w.pollers rank)) o)) stands;
  replies = append-nil w.replies;
}
  where
    w : ArbiterWorld
    w = run_beside s t times events

module _ (s : Settings) (t : Timing) (times : Lease) (events : List ArbiterEvent) (met : List Event) (may : AllMayBeside s t times events)
    (same : (run_beside s t times events).world ≡ run s t met) where
  abbrev now : ArbiterWorld
  now = run_beside s t times events

  with_arbiter : (dt : ℕ) (clocks : List (Rank × ℕ)) (advance : ℕ) → is_some now.arbiter ≡ true → is_within_bounds dt advance ≡ true → AllMay s t (event.Pass dt clocks ∷ met)
      → Goes s t times now (event.Pass dt clocks ∷ met) (option_map (advanced_arbiter advance) now.arbiter) now.pollers
  unfolding run_beside step_beside played arbiter_after pollers_after poll_sent reply_sent AllMayBeside AllMay refusal_beside is_ranked_beside run
  with_arbiter dt clocks advance on bounds all = record {
    events = beside.PassWith advance (event.Pass dt clocks) ∷ events;
    may = (
      all.0,
      ap (λ b. option_or (unless (b && is_within_bounds dt advance) 15) (refusal s t (event.Pass dt clocks) now.world)) on
          ∙ ap (λ b. option_or (unless b 15) (refusal s t (event.Pass dt clocks) now.world)) bounds
          ∙ ap (λ x. refusal s t (event.Pass dt clocks) x) same
          ∙ all.1,
      may,
    );
    same = ap (λ x. step s t (event.Pass dt clocks) x) same;
    arbiter_is = refl;
    pollers_are = λ r. refl;
    polls = append-nil now.polls;
    replies = append-nil now.replies;
  }

  -- time passes, with an arbiter or without one
  pub passes_with : (dt : ℕ) (clocks : List (Rank × ℕ)) (advance : ℕ) → is_within_bounds dt advance ≡ true → AllMay s t (event.Pass dt clocks ∷ met)
      → Goes s t times now (event.Pass dt clocks ∷ met) (option_map (advanced_arbiter advance) now.arbiter) now.pollers
  passes_with dt clocks advance bounds all = by_arbiter now.arbiter refl
    where
      by_arbiter : (o : Option Arbiter) → now.arbiter ≡ o → Goes s t times now (event.Pass dt clocks ∷ met) (option_map (advanced_arbiter advance) now.arbiter) now.pollers
      by_arbiter (Some arbiter) e = with_arbiter dt clocks advance (ap is_some e) bounds all
      by_arbiter None e =
          subst (λ a. Goes s t times now (event.Pass dt clocks ∷ met) a now.pollers) (ap (λ o. option_map (advanced_arbiter (100 * dt)) o) e ∙ sym (ap (λ o. option_map (advanced_arbiter advance) o) e))
          (one_goes s t times events met may same (event.Pass dt clocks) refl all)

  -- an arbiter boots, and one that runs ends
  pub boots_arbiter : (base : ℕ) → now.arbiter ≡ None → Goes s t times now met (Some (booted_arbiter times.lease base)) now.pollers
  unfolding run_beside step_beside played arbiter_after pollers_after poll_sent reply_sent AllMayBeside refusal_beside is_ranked_beside
  boots_arbiter base off = record {
    events = beside.ArbiterBoot base ∷ events;
    may = (refl, ap (λ o. unless (not (is_some o)) 12) off, may);
    same = same;
    arbiter_is = refl;
    pollers_are = λ r. refl;
    polls = append-nil now.polls;
    replies = append-nil now.replies;
  }

  crashes_arbiter : is_some now.arbiter ≡ true → Goes s t times now met None now.pollers
  unfolding run_beside step_beside played arbiter_after pollers_after poll_sent reply_sent AllMayBeside refusal_beside is_ranked_beside
  crashes_arbiter on = record {
    events = beside.ArbiterCrash ∷ events;
    may = (refl, ap (λ b. unless b 12) on, may);
    same = same;
    arbiter_is = refl;
    pollers_are = λ r. refl;
    polls = append-nil now.polls;
    replies = append-nil now.replies;
  }

  pub ends_arbiter : Goes s t times now met None now.pollers
  ends_arbiter = by_arbiter now.arbiter refl
    where
      by_arbiter : (o : Option Arbiter) → now.arbiter ≡ o → Goes s t times now met None now.pollers
      by_arbiter (Some arbiter) e = crashes_arbiter (ap is_some e)
      by_arbiter None e = subst (λ a. Goes s t times now met a now.pollers) e (stays s t times events met may same)

  -- the arbiter hears a poll
  pub record Heard (poll : Poll) (arbiter : Arbiter) : Type 0 where
    pub events' : List ArbiterEvent
    pub may' : AllMayBeside s t times events'
    pub same' : (run_beside s t times events').world ≡ run s t met
    pub arbiter_is : (run_beside s t times events').arbiter ≡ Some (hearing poll arbiter)
    pub pollers : (run_beside s t times events').pollers ≡ now.pollers
    pub polls : (run_beside s t times events').polls ≡ now.polls
    pub replies : (run_beside s t times events').replies ≡ now.replies ++ reply_to arbiter poll ∷ []

  pub hears_poll : (poll : Poll) (arbiter : Arbiter) → Contains now.polls poll → now.arbiter ≡ Some arbiter → Heard poll arbiter
  unfolding run_beside step_beside played arbiter_after pollers_after poll_sent reply_sent AllMayBeside refusal_beside is_ranked_beside
  hears_poll poll arbiter there runs = record {
    events' = beside.Hear there.0 ∷ events;
    may' = (
      refl,
      ap (λ o. option_or (unless (is_some o) 12) (unless (is_some (poll_at there.0 now)) 14)) runs ∙ ap (λ o. unless (is_some o) 14) found,
      may,
    );
    same' = same;
    arbiter_is = ap (λ o. option_map_or (λ p. option_map (hearing p) now.arbiter) o now.arbiter) found ∙ ap (λ a. option_map (hearing poll) a) runs;
    pollers = refl;
    polls = append-nil now.polls;
    replies =
        ap (λ a. now.replies ++ option_to_list (option_map_or (λ x. option_map (reply_to x) (poll_at there.0 now)) a None)) runs
        ∙ ap (λ o. now.replies ++ option_to_list (option_map (reply_to arbiter) o)) found;
  }
    where
      found : poll_at there.0 now ≡ Some poll
      found = slice_get-get_or now.polls there.0 poll there.1 ∙ ap Some there.2

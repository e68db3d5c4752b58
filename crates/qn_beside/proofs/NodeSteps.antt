-- What happens to the nodes beside a running arbiter happens in the world beside an arbiter.
use Rattle.std.proofs.Common.{◌≡◌, ◌≤◌, ℕ, Bool, true, false, not, ◌*◌, ◌&&◌, List, ◌∷◌, ◌++◌, Option, None, Some, is_some, refl, sym, ap, subst, ◌∙◌, length, ◌⊎◌, inl, inr}
use Rattle.std.specs.Prelude.{Contains, ◌<◌, option_map}
use Rattle.std.specs.Option.{option_map_or, option_to_list}
use Rattle.std.proofs.lemmas.Bool.{cases_lt, true≢false}
use Rattle.std.proofs.lemmas.List.Elements.{Contains-append_cases}
use Rattle.std.proofs.lemmas.Option.{same_Some}
use Rattle.qn_base.specs.declared.calls.Call.{Call}
use Rattle.qn_base.specs.declared.calls.Call.TheVariants as call
use Rattle.qn_base.specs.declared.calls.Received.{Received}
use Rattle.qn_base.specs.declared.calls.Received.TheVariants as received
use Rattle.qn_base.specs.declared.ids.Rank.{Rank}
use Rattle.qn_base.specs.Calls.{blank}
use Rattle.qn_base.specs.lemmas.Options.{none_is_not_some}
use Rattle.qn_io.specs.Answered.{received_in, time_of}
use Rattle.qn_model.specs.declared.configuration.Settings.{Settings}
use Rattle.qn_model.specs.declared.times.Timing.{Timing}
use Rattle.qn_model.specs.declared.entries.What.{What}
use Rattle.qn_model.specs.declared.entries.What.TheVariants as what
use Rattle.qn_model.specs.declared.events.Event.{Event}
use Rattle.qn_model.specs.declared.events.Event.TheVariants as event
use Rattle.qn_model.specs.lemmas.Moments.{put_other, put_same}
use Rattle.qn_model.specs.Moments.{begin_of, is_gone, packets, tick_of}
use Rattle.qn_model.specs.NodeOutputs.{newest_outs}
use Rattle.qn_model.specs.Phases.{phase}
use Rattle.qn_model.specs.Steps.{run}
use Rattle.qn_model.specs.World.{World, node_at, numbered, put, without}
use Rattle.qn_safety.specs.declared.lease.Lease.{Lease}
use Rattle.qn_safety.specs.declared.polls.Poll.{Poll}
use Rattle.qn_safety.specs.declared.polls.Reply.{Reply}
use Rattle.qn_safety.specs.AnyNumbers.{AllMay}
use Rattle.qn_safety.specs.ArbiterSteps.{advanced_arbiter, run_beside}
use Rattle.qn_safety.specs.ArbiterWorld.{Arbiter, ArbiterWorld}
use Rattle.qn_safety.specs.Poller.{Poller, answer_taken, fresh_poller}
use Rattle.qn_polls.specs.Polls.{is_poll, poll_bytes}
use Rattle.qn_polls.specs.Reading.{poll_of}
use Rattle.qn_live.specs.declared.place.Choice.TheVariants as choice
use Rattle.qn_live.specs.Polling.{arbiter_seat, reply_in}
use Rattle.qn_live.specs.Running.{first_state}
use Rattle.qn_joined.specs.Joints as joints
use Rattle.qn_joined.specs.Joints.{FitsImage, Happening, Host, Joint, MayAnswer, after_effect, began, ended, happens, landed_image, looked_first, returned, sent_by, takes, waits_for, with_host}
use Rattle.qn_joined.specs.Moves.{EachIsOneEvent, Hands, HasStepped, IsBoot, boot_event, entry_handed}
use Rattle.qn_joined.specs.Nodes.{at}
use Rattle.qn_joined.specs.Stands.{Spot, Receiving, Looking, Acting, Polling, Saying, Parting, Ended, after_call, first_stand, left_plan, log_at}
use Rattle.qn_joined.specs.WorldOf.{HasWorld, IsEnding, IsNode, IsWorld}
use Rattle.qn_beside.specs.Beside.{ArbiterHost, Beside, Here, MayHappenBeside, MayHearReply, happens_beside, poll_said}
use Rattle.qn_beside.proofs.Going.{Goes, Hears, boot_goes, hears, one_goes}
use Rattle.qn_beside.proofs.Pollers.{Answers, AsItWas, IsPolling, IsToPoll, SpotAs, SpotWith, after_look, answers_device, world_takes}
use Rattle.qn_beside.proofs.Simulating.{ArbiterAs, HasBeside, HostAs, IsFirst, each_rank}
use Rattle.qn_beside.proofs.Spelling.{IsSaid, call_said, packet_no_poll}
use Rattle.qn_beside.proofs.Stepping.{StaysOn, reached, reached_nearly, said_there, spot_after, stays_on, tells}

-- a machine that is on is that of a rank
on_below : {s : Settings} {t : Timing} {j : Joint} {w : World} → IsWorld s t j w → (rank : ℕ) → (j.hosts rank).on ≡ true → rank < length s.nodes
on_below {s} {j = j} is rank on = by_order (cases_lt rank (length s.nodes))
  where
    by_order : (rank < length s.nodes) ⊎ (length s.nodes ≤ rank) → rank < length s.nodes
    by_order (inl within) = within
    by_order (inr out) = absurd (true≢false (sym on ∙ is.off rank out))

module _ (s : Settings) (t : Timing) (times : Lease) (b : Beside) (has : HasBeside s t times b) where
  abbrev w : ArbiterWorld
  w = run_beside s t times has.events

  abbrev j : Joint
  j = b.joint

  abbrev with_joint : Joint → Beside
  with_joint joint = record { joint = joint; arbiter = b.arbiter; replied = b.replied }

  -- what one event more hands a rank
  handed_on : {joint : Joint} {entry : Option What} (rank : ℕ) → (step : HasStepped s t (Hands rank entry) has.world.events joint)
      → ((agrees : Bool) → entry ≡ Some (what.Device agrees) → Answers rank (tick_of (node_at s rank w.world).clock) w.replies (w.pollers rank) agrees)
      → Hears s t times has.events has.world.events has.may has.same rank entry (option_to_list step.one.event ++ has.world.events)
  handed_on {joint} {entry} rank step granted =
      hears s t times has.events has.world.events has.may has.same rank entry step.one.event step.one.is (subst (λ es. AllMay s t es) step.one.grew step.may)
      (λ agrees e. let it = granted agrees e in (it.reply, it.there, it.to, it.takes))

  abbrev stepped_world : {joint : Joint} {P : Option Event → Type 0} → HasStepped s t P has.world.events joint → HasWorld s t joint
  stepped_world step = record { events = step.events'; may = step.may; world = step.world }

  -- something that hands nothing, and sends nothing
  quietly : {joint : Joint} (rank : ℕ) → HasStepped s t (Hands rank None) has.world.events joint
      → ((r : ℕ) → HostAs times.limit r w.polls w.replies (w.pollers r) (joint.hosts r)) → joint.sent ≡ j.sent → HasBeside s t times (with_joint joint)
  quietly {joint} rank step hosts sent =
      let h = handed_on rank step (λ agrees e. none_is_not_some _ e) in
      reached s t times w (with_joint joint) (stepped_world step) _ step.one.grew w.arbiter h.pollers h.goes
      (record {
        hosts = each_rank (λ r. HostAs times.limit r w.polls w.replies (h.pollers r) (joint.hosts r)) rank
            (subst (λ x. HostAs times.limit rank w.polls w.replies x (joint.hosts rank)) (sym h.own) (hosts rank))
            (λ r apart. subst (λ x. HostAs times.limit r w.polls w.replies x (joint.hosts r)) (sym (h.others r apart)) (hosts r));
        runs = has.is.runs;
        replied = has.is.replied;
        polled = λ bytes poll there e. has.is.polled bytes poll (subst (λ l. Contains l (arbiter_seat, bytes)) sent there) e;
      })

  -- one host is replaced
  put_host : (rank : ℕ) (host : Host) → HostAs times.limit rank w.polls w.replies (w.pollers rank) host
      → (r : ℕ) → HostAs times.limit r w.polls w.replies (w.pollers r) (put j.hosts rank host r)
  put_host rank host is =
      each_rank (λ r. HostAs times.limit r w.polls w.replies (w.pollers r) (put j.hosts rank host r)) rank
      (subst (λ h. HostAs times.limit rank w.polls w.replies (w.pollers rank) h) (sym (put_same j.hosts rank host)) is)
      (λ r apart. subst (λ h. HostAs times.limit r w.polls w.replies (w.pollers r) h) (sym (put_other j.hosts rank r host apart)) (has.is.hosts r))

  -- a reply that was received was sent in the world
  reply_there : (rank : ℕ) (got : Received) → MayHearReply rank got b.replied → (reply : Reply) → reply_in got ≡ Some reply → Contains w.replies reply
  reply_there rank (received.Packet bytes) may reply e = has.is.replied rank bytes reply (may (ap is_some e)) e
  reply_there rank received.Nothing may reply e = none_is_not_some reply e
  reply_there rank received.Failed may reply e = none_is_not_some reply e

  module _ (rank : ℕ) (made : Call) (may : joints.MayReturn s rank made j) where
    abbrev host : Host
    host = j.hosts rank

    abbrev spot : Spot
    spot = host.stand.spot

    polls_now : SpotAs rank w.polls w.replies (w.pollers rank) spot
    polls_now = (has.is.hosts rank).asked may.on may.asked

    below : rank < length s.nodes
    below = on_below has.world.world rank may.on

    abbrev met : World
    met = run s t has.world.events

    node_is : IsNode s rank host (node_at s rank met) (met.took rank) (met.left rank) (packets s met.moments)
    node_is = has.world.world.nodes rank below

    -- a yes that is handed answers a poll
    yes_at : (at_spot : Spot) → spot ≡ at_spot → SpotAs rank w.polls w.replies (w.pollers rank) at_spot → waits_for s rank (at host at_spot) ≡ Some (blank made)
        → (agrees : Bool) → entry_handed at_spot made ≡ Some (what.Device agrees) → Answers rank (tick_of (node_at s rank w.world).clock) w.replies (w.pollers rank) agrees
    unfolding left_plan
    yes_at (Looking chosen) here is waits agrees e =
        let answers = answers_device rank (time_of made) w.replies chosen.0 chosen.1 agrees is.0.poller is.0.has is.1 (same_Some _ _ e) in
        record {
          reply = answers.reply;
          to = answers.to;
          there = answers.there;
          takes = subst (λ k. answer_taken k answers.reply (w.pollers rank) ≡ Some agrees) tick_is (world_takes (time_of made) answers.reply agrees is.0.alike answers.takes);
        }
      where
        lives : (node_at s rank (run s t has.world.events)).on ≡ true
        lives = by_gone (is_gone (phase s (log_at spot))) refl
          where
            by_gone : (gone : Bool) → is_gone (phase s (log_at spot)) ≡ gone → (node_at s rank (run s t has.world.events)).on ≡ true
            by_gone true e = absurd (subst IsEnding here (node_is.ending may.on e))
            by_gone false e = node_is.on ∙ ap (λ x. x && host.asked && not (is_gone (phase s (log_at spot)))) may.on ∙ ap (λ x. x && not (is_gone (phase s (log_at spot)))) may.asked ∙ ap not e

        tick_is : time_of made ≡ tick_of (node_at s rank w.world).clock
        tick_is =
            tells made (tick_of host.clock) waits (λ k same. subst (λ c. MayAnswer rank host j.sent c) same may.answer)
            ∙ sym (ap tick_of (ap (λ x. (node_at s rank x).clock) has.same ∙ node_is.clock lives))
    yes_at (Receiving st) here is waits agrees e = none_is_not_some _ e
    yes_at (Acting entry outs o rest st) here is waits agrees e = none_is_not_some _ e
    yes_at (Polling poll sents st) here is waits agrees e = none_is_not_some _ e
    yes_at (Saying sent rest st) here is waits agrees e = none_is_not_some _ e
    yes_at (Parting end sent rest st) here is waits agrees e = none_is_not_some _ e
    yes_at (Ended ran) here is waits agrees e = none_is_not_some _ e

    module _ (each : EachIsOneEvent s t) (fits : FitsImage s t) (polls_back : (poll : Poll) → is_poll poll ≡ true → poll_of (poll_bytes poll) ≡ Some poll)
        (heard : MayHearReply rank (received_in made) b.replied) (spells : option_map_or is_poll (poll_said spot) true ≡ true) where
      abbrev after_host : Host
      after_host = returned s rank made j.time host

      abbrev joint : Joint
      joint = happens s (joints.Returns rank made) j

      step : HasStepped s t (Hands rank (entry_handed spot made)) has.world.events joint
      step = each j (joints.Returns rank made) fits has.world may

      h : Hears s t times has.events has.world.events has.may has.same rank (entry_handed spot made) (option_to_list step.one.event ++ has.world.events)
      h = handed_on rank step (yes_at spot refl polls_now may.waits)

      spot_then : SpotWith (IsToPoll s rank (h.pollers rank)) rank w.replies (h.pollers rank) after_host.stand.spot
      unfolding returned
      spot_then =
          spot_after (w.pollers rank) (h.pollers rank) w.replies s rank host.leave host.stand.turn host.stand.more w.polls spot made h.own
          (λ reply e mine. reply_there rank (received_in made) heard reply e) polls_now

      stays_so : StaysOn host after_host
      unfolding returned
      stays_so =
          let stays = stays_on made (newest_outs (log_at (after_call s rank host.leave host.stand made).spot)) j.time host in
          record { on = stays.on; asked = stays.asked }

      new_polls : (bytes : List ℕ) (poll : Poll) → IsSaid spot bytes → poll_of bytes ≡ Some poll → Contains w.polls poll
      new_polls bytes poll (inl p) e = absurd (packet_no_poll p.0 poll (subst (λ l. poll_of l ≡ Some poll) p.1 e))
      new_polls bytes poll (inr said) e =
          let well : is_poll said.0 ≡ true = sym (ap (λ o. option_map_or is_poll o true) said.1) ∙ spells in
          let is : said.0 ≡ poll = same_Some said.0 poll (sym (polls_back said.0 well) ∙ ap poll_of (sym said.2) ∙ e) in
          subst (λ q. Contains w.polls q) is (said_there w.polls w.replies (w.pollers rank) rank spot said.0 polls_now said.1)

      all_polls : (bytes : List ℕ) (poll : Poll) → Contains (j.sent ++ sent_by made) (arbiter_seat, bytes) → poll_of bytes ≡ Some poll → Contains w.polls poll
      all_polls bytes poll there e = by_case (Contains-append_cases j.sent (sent_by made) (arbiter_seat, bytes) there)
        where
          by_case : Contains j.sent (arbiter_seat, bytes) ⊎ Contains (sent_by made) (arbiter_seat, bytes) → Contains w.polls poll
          by_case (inl old) = has.is.polled bytes poll old e
          by_case (inr new) = new_polls bytes poll (call_said s rank host spot made arbiter_seat bytes may.waits new) e

      -- a call of a node returns
      pub returns : HasBeside s t times (with_joint joint)
      unfolding happens
      returns =
          reached_nearly s t times w (with_joint joint) (stepped_world step) _ step.one.grew w.arbiter h.pollers h.goes rank below
          (record {
            own = subst (λ x. SpotWith (IsToPoll s rank (h.pollers rank)) rank w.replies (h.pollers rank) x.stand.spot) (sym here) spot_then;
            on = ap (λ x. x.on) here ∙ stays_so.on ∙ may.on;
            asked = ap (λ x. x.asked) here ∙ stays_so.asked ∙ may.asked;
            others = λ r apart.
                subst (λ x. HostAs times.limit r w.polls w.replies x (put j.hosts rank after_host r)) (sym (h.others r apart))
                (subst (λ x. HostAs times.limit r w.polls w.replies (w.pollers r) x) (sym (put_other j.hosts rank r after_host apart)) (has.is.hosts r));
            runs = has.is.runs;
            replied = has.is.replied;
            polled = all_polls;
          })
        where
          here : put j.hosts rank after_host rank ≡ after_host
          here = put_same j.hosts rank after_host

  -- the first look of a process at its clock
  module _ (rank base : ℕ) (on : (j.hosts rank).on ≡ true) (unasked : (j.hosts rank).asked ≡ false) where
    abbrev first_host : Host
    first_host = looked_first s rank base j.time (j.hosts rank)

    abbrev fresh : Poller
    fresh = fresh_poller times.limit

    first : IsFirst times.limit (j.hosts rank).stand
    first = (has.is.hosts rank).fresh on unasked

    first_polls : IsPolling (first_state (Some times.limit)) fresh
    first_polls = record { poller = fresh; has = refl; alike = record { limit = refl; count = refl; last = λ sent e. none_is_not_some sent e }; calm = refl }

    first_spot : SpotWith (IsToPoll s rank fresh) rank w.replies fresh first_host.stand.spot
    unfolding looked_first returned
    first_spot =
        subst (λ x. SpotWith (IsToPoll s rank fresh) rank w.replies fresh (after_call s rank (j.hosts rank).leave x (call.Now (tick_of base))).spot) (sym first.first)
        (after_look s rank (j.hosts rank).leave w.replies fresh fresh 2 _ (tick_of base) (choice.Whole (begin_of first.clean), first_state (Some times.limit)) (call.Now (tick_of base)) refl first_polls (AsItWas refl))

    first_on : first_host.on ≡ true
    unfolding looked_first returned
    first_on = on

    first_asked : first_host.asked ≡ true
    unfolding looked_first
    first_asked = refl

    looks : (step : HasStepped s t (IsBoot rank base) has.world.events (with_host rank first_host j)) → HasBeside s t times (with_joint (with_host rank first_host j))
    looks step =
        let is = step.one.is in
        let grew : step.events' ≡ boot_event rank base is.0 ∷ has.world.events = step.one.grew ∙ ap (λ o. option_to_list o ++ has.world.events) is.1 in
        let g = boot_goes s t times has.events has.world.events has.may has.same rank base is.0 (subst (λ es. AllMay s t es) grew step.may) in
        reached_nearly s t times w (with_joint (with_host rank first_host j)) (stepped_world step) _ grew w.arbiter (put w.pollers rank fresh) g rank (on_below has.world.world rank on)
        (record {
          own = subst (λ x. SpotWith (IsToPoll s rank x) rank w.replies x (put j.hosts rank first_host rank).stand.spot) (sym (put_same w.pollers rank fresh))
              (subst (λ x. SpotWith (IsToPoll s rank fresh) rank w.replies fresh x.stand.spot) (sym (put_same j.hosts rank first_host)) first_spot);
          on = ap (λ x. x.on) (put_same j.hosts rank first_host) ∙ first_on;
          asked = ap (λ x. x.asked) (put_same j.hosts rank first_host) ∙ first_asked;
          others = λ r apart.
              subst (λ x. HostAs times.limit r w.polls w.replies x (put j.hosts rank first_host r)) (sym (put_other w.pollers rank r fresh apart))
              (subst (λ x. HostAs times.limit r w.polls w.replies (w.pollers r) x) (sym (put_other j.hosts rank r first_host apart)) (has.is.hosts r));
          runs = has.is.runs;
          replied = has.is.replied;
          polled = has.is.polled;
        })

  -- time passes: the clocks of the nodes advance
  pub clocks_pass : {arbiter : Option Arbiter} (dt : ℕ) (clocks : List (Rank × ℕ)) (host : Option ArbiterHost)
      → (step : HasStepped s t (λ found. found ≡ Some (event.Pass dt clocks)) has.world.events (happens s (joints.Passes dt clocks) j))
      → Goes s t times w (event.Pass dt clocks ∷ has.world.events) arbiter w.pollers → ArbiterAs host w.polls w.replies arbiter
      → HasBeside s t times (record { joint = happens s (joints.Passes dt clocks) j; arbiter = host; replied = b.replied })
  unfolding happens
  clocks_pass {arbiter = arbiter} dt clocks host step g runs =
      reached s t times w (record { joint = happens s (joints.Passes dt clocks) j; arbiter = host; replied = b.replied }) (stepped_world step) _
      (step.one.grew ∙ ap (λ o. option_to_list o ++ has.world.events) step.one.is) arbiter w.pollers g
      (record {
        hosts = λ r. record { asked = (has.is.hosts r).asked; fresh = (has.is.hosts r).fresh };
        runs = runs;
        replied = has.is.replied;
        polled = has.is.polled;
      })

  module _ (each : EachIsOneEvent s t) (fits : FitsImage s t) where
    pub pass_step : (dt : ℕ) (clocks : List (Rank × ℕ)) → joints.MayHappen s t (joints.Passes dt clocks) j
        → HasStepped s t (λ found. found ≡ Some (event.Pass dt clocks)) has.world.events (happens s (joints.Passes dt clocks) j)
    pass_step dt clocks may = each j (joints.Passes dt clocks) fits has.world may

    pub pass_may : (dt : ℕ) (clocks : List (Rank × ℕ)) → joints.MayHappen s t (joints.Passes dt clocks) j → AllMay s t (event.Pass dt clocks ∷ has.world.events)
    pass_may dt clocks may =
        let step = pass_step dt clocks may in
        subst (λ es. AllMay s t es) (step.one.grew ∙ ap (λ o. option_to_list o ++ has.world.events) step.one.is) step.may

  -- what happens to the nodes
  module _ (each : EachIsOneEvent s t) (fits : FitsImage s t) (polls_back : (poll : Poll) → is_poll poll ≡ true → poll_of (poll_bytes poll) ≡ Some poll) where
    -- time passes while no arbiter runs
    alone : (dt : ℕ) (clocks : List (Rank × ℕ)) → joints.MayHappen s t (joints.Passes dt clocks) j → b.arbiter ≡ None
        → HasBeside s t times (with_joint (happens s (joints.Passes dt clocks) j))
    alone dt clocks may none =
        clocks_pass dt clocks b.arbiter (pass_step each fits dt clocks may)
        (one_goes s t times has.events has.world.events has.may has.same (event.Pass dt clocks) refl (pass_may each fits dt clocks may))
        (subst (λ a. ArbiterAs a w.polls w.replies (option_map (advanced_arbiter (100 * dt)) w.arbiter)) (sym none)
        (ap (option_map (advanced_arbiter (100 * dt))) off))
      where
        off : w.arbiter ≡ None
        off = subst (λ a. ArbiterAs a w.polls w.replies w.arbiter) none has.is.runs

    pub here : (one : Happening) → MayHappenBeside s t times (Here one) b → HasBeside s t times (happens_beside s times (Here one) b)
    unfolding happens_beside happens
    here (joints.Passes dt clocks) may = alone dt clocks may.0 (may.3 refl)
    here (joints.Begins rank clean leave polls turns) may =
        quietly rank (each j (joints.Begins rank clean leave polls turns) fits has.world may.0)
        (put_host rank (began clean leave polls turns j.time)
        (record { asked = λ on asked. absurd (true≢false (sym asked)); fresh = λ on unasked. record { clean = clean; turns = turns; first = ap (λ p. first_stand clean p turns) may.1 } })) refl
    here (joints.Looks rank base) may = looks rank base may.0.0 may.0.1 (each j (joints.Looks rank base) fits has.world may.0)
    here (joints.Lands rank) may = by_call (waits_for s rank (j.hosts rank)) (each j (joints.Lands rank) fits has.world may.0)
      where
        by_call : (waiting : Option Call)
            → HasStepped s t (Hands rank None) has.world.events (option_map_or (λ x. record (with_host rank (record (j.hosts rank) { took = Some (takes x j.image) }) j) { image = landed_image x j.image }) waiting j)
            → HasBeside s t times (with_joint (option_map_or (λ x. record (with_host rank (record (j.hosts rank) { took = Some (takes x j.image) }) j) { image = landed_image x j.image }) waiting j))
        by_call None step = quietly rank step has.is.hosts refl
        by_call (Some waiting) step =
            quietly rank step (put_host rank (record (j.hosts rank) { took = Some (takes waiting j.image) }) (record { asked = (has.is.hosts rank).asked; fresh = (has.is.hosts rank).fresh })) refl
    here (joints.Returns rank made) may = returns rank made may.0 each fits polls_back may.2.hears may.2.spells
    here (joints.Feeds rank) may =
        quietly rank (each j (joints.Feeds rank) fits has.world may.0)
        (put_host rank (record (j.hosts rank) { fed = j.time }) (record { asked = (has.is.hosts rank).asked; fresh = (has.is.hosts rank).fresh })) refl
    here (joints.LandsLate rank number) may = by_call (numbered (j.hosts rank).left number) (each j (joints.LandsLate rank number) fits has.world may.0)
      where
        by_call : (write : Option Call)
            → HasStepped s t (Hands rank None) has.world.events
            (option_map_or (λ x. record (with_host rank (record (j.hosts rank) { left = without (j.hosts rank).left number }) j) { image = landed_image x j.image }) write j)
            → HasBeside s t times (with_joint (option_map_or (λ x. record (with_host rank (record (j.hosts rank) { left = without (j.hosts rank).left number }) j) { image = landed_image x j.image }) write j))
        by_call None step = quietly rank step has.is.hosts refl
        by_call (Some write) step =
            quietly rank step (put_host rank (record (j.hosts rank) { left = without (j.hosts rank).left number }) (record { asked = (has.is.hosts rank).asked; fresh = (has.is.hosts rank).fresh })) refl
    here (joints.Ends rank) may =
        quietly rank (each j (joints.Ends rank) fits has.world may.0)
        (put_host rank (ended s rank (j.hosts rank)) (record { asked = λ on asked. absurd (true≢false (sym on)); fresh = λ on unasked. absurd (true≢false (sym on)) })) refl
    here (joints.Operates rank sent) may = quietly rank (each j (joints.Operates rank sent) fits has.world may.0) has.is.hosts refl

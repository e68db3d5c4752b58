-- What happens to a running arbiter happens in the world beside an arbiter.
use Rattle.std.proofs.Common.{◌≡◌, ℕ, Bool, true, false, ◌+◌, ◌&&◌, List, [], ◌∷◌, ◌++◌, Option, None, Some, if◌then◌else◌, is_some, refl, sym, ap, subst, ◌∙◌, nat_lt, ◌⊎◌, inl, inr}
use Rattle.std.specs.Prelude.{Contains, ◌^◌, option_map}
use Rattle.std.proofs.lemmas.Bool.{true≢false}
use Rattle.std.proofs.lemmas.List.Elements.{Contains-append_cases, Contains-append_left, Contains-push}
use Rattle.std.proofs.lemmas.List.{append-nil}
use Rattle.std.proofs.lemmas.Option.{same_Some}
use Rattle.qn_wire.specs.Packets.{is_rank, is_view}
use Rattle.qn_base.specs.declared.calls.Call.{Call}
use Rattle.qn_base.specs.declared.calls.Call.TheVariants as call
use Rattle.qn_base.specs.declared.calls.Received.{Received}
use Rattle.qn_base.specs.declared.calls.Received.TheVariants as received
use Rattle.qn_base.specs.declared.ids.Rank.{Rank}
use Rattle.qn_base.specs.Calls.{blank}
use Rattle.qn_base.specs.lemmas.Options.{none_is_not_some}
use Rattle.qn_io.specs.Answered.{received_in, time_of}
use Rattle.qn_model.specs.declared.configuration.Settings.{Settings}
use Rattle.qn_model.specs.declared.times.Timing.{Timing}
use Rattle.qn_model.specs.Moments.{tick_of}
use Rattle.qn_safety.specs.declared.lease.Lease.{Lease}
use Rattle.qn_safety.specs.declared.polls.Poll.{Poll}
use Rattle.qn_safety.specs.declared.polls.Reply.{Reply}
use Rattle.qn_safety.specs.Arbiter.{fresh_memory, gives_yes, with_poll}
use Rattle.qn_safety.specs.ArbiterSteps.{advanced_arbiter, run_beside}
use Rattle.qn_safety.specs.ArbiterWorld.{Arbiter, ArbiterWorld}
use Rattle.qn_polls.specs.Polls.{is_poll, is_reply, reply_bytes}
use Rattle.qn_polls.specs.Reading.{reply_of}
use Rattle.qn_leases.specs.Points.{Point, Starting, Waiting, Asked, Answering, Stopped, after_made, asked_at, waiting_with}
use Rattle.qn_leases.specs.Serving.{Serving, poll_in, reply_at}
use Rattle.qn_joined.specs.Joints.{FitsImage, sent_by}
use Rattle.qn_joined.specs.Moves.{EachIsOneEvent}
use Rattle.qn_beside.specs.Beside.{ArbiterBegins, ArbiterEnds, ArbiterHost, ArbiterReturns, Beside, MayAnswerArbiter, MayHappenBeside, MayHearPoll, MayReturnArbiter, PassesWith, arbiter_moved, happens_beside}
use Rattle.qn_beside.proofs.Going.{Goes, Heard, boots_arbiter, ends_arbiter, hears_poll, passes_with, stays}
use Rattle.qn_beside.proofs.Simulating.{ArbiterAs, HasBeside, HostAs, PointAs, Wider, host_wider}
use Rattle.qn_beside.proofs.Spelling.{one_sent, poll_read}
use Rattle.qn_beside.proofs.Stepping.{reached, tells}
use Rattle.qn_beside.proofs.NodeSteps.{clocks_pass, pass_may, pass_step}

-- a reply that is sent goes by its bytes
sends_reply : (made : Call) (reply : Reply) → Some (call.Send reply.to (reply_bytes reply) true) ≡ Some (blank made) → (to : ℕ) (bytes : List ℕ) → Contains (sent_by made) (to, bytes)
    → bytes ≡ reply_bytes reply
sends_reply (call.Send other sent ok) reply e to bytes there = one_sent other sent to bytes there ∙ same e
  where
    same : Some (call.Send reply.to (reply_bytes reply) true) ≡ Some (call.Send other sent true) → sent ≡ reply_bytes reply
    same q = cc
sends_reply (call.Now tick) reply e to bytes there = absurd cc
sends_reply (call.Receive got) reply e to bytes there = absurd cc
sends_reply (call.Read sector read ok) reply e to bytes there = absurd cc
sends_reply (call.Write sector written ok) reply e to bytes there = absurd cc
sends_reply (call.Feed ok) reply e to bytes there = absurd cc
sends_reply (call.Start ok) reply e to bytes there = absurd cc
sends_reply (call.Stop ok) reply e to bytes there = absurd cc
sends_reply (call.Disarm ok) reply e to bytes there = absurd cc
sends_reply (call.Halt code) reply e to bytes there = absurd cc
sends_reply (call.OpenImage path ok) reply e to bytes there = absurd cc
sends_reply (call.OpenNode images image watchdog resource port owner ok) reply e to bytes there = absurd cc

-- a call that is no send sends nothing
sends_nothing : (made asked : Call) → sent_by asked ≡ [] → Some asked ≡ Some (blank made) → sent_by made ≡ []
sends_nothing (call.Send to bytes ok) asked none e = sym (ap sent_by (same_Some _ _ e)) ∙ none
sends_nothing (call.Now tick) asked none e = refl
sends_nothing (call.Receive got) asked none e = refl
sends_nothing (call.Read sector read ok) asked none e = refl
sends_nothing (call.Write sector written ok) asked none e = refl
sends_nothing (call.Feed ok) asked none e = refl
sends_nothing (call.Start ok) asked none e = refl
sends_nothing (call.Stop ok) asked none e = refl
sends_nothing (call.Disarm ok) asked none e = refl
sends_nothing (call.Halt code) asked none e = refl
sends_nothing (call.OpenImage path ok) asked none e = refl
sends_nothing (call.OpenNode images image watchdog resource port owner ok) asked none e = refl

-- a well formed poll has a well formed reply
reply_formed : (s : Settings) (poll : Poll) (agrees : Bool) → is_poll poll ≡ true
    → is_reply (record { to = poll.from; number = poll.number; incarnation = poll.incarnation; install = poll.install; agrees = agrees }) ≡ true
reply_formed s poll agrees formed =
    by_tests (is_rank poll.from) (nat_lt poll.number (2 ^ 64)) (nat_lt poll.incarnation (2 ^ 64)) (nat_lt poll.install (2 ^ 64)) (is_view poll.view) formed
  where
    by_tests : (a b c d e : Bool) → (a && b && c && d && e) ≡ true → (a && b && c && d) ≡ true
    by_tests true true true true e all = refl
    by_tests true true true false e all = absurd (true≢false (sym all))
    by_tests true true false d e all = absurd (true≢false (sym all))
    by_tests true false c d e all = absurd (true≢false (sym all))
    by_tests false b c d e all = absurd (true≢false (sym all))

-- a poll that was received was sent in the world, and is well formed
record IsKnown (polls : List Poll) (poll : Poll) : Type 0 where
  there : Contains polls poll
  formed : is_poll poll ≡ true

-- the clock of an arbiter advances
point_advances : (polls : List Poll) (replies : List Reply) (clock advance : ℕ) (found : Option Arbiter) (point : Point) → PointAs clock polls replies found point
    → PointAs (clock + advance) polls replies (option_map (advanced_arbiter advance) found) point
point_advances polls replies clock advance found Starting is = ap (option_map (advanced_arbiter advance)) is
point_advances polls replies clock advance found (Waiting st) is = ap (option_map (advanced_arbiter advance)) is
point_advances polls replies clock advance found (Asked poll st) is = (ap (option_map (advanced_arbiter advance)) is.0, is.1, is.2)
point_advances polls replies clock advance found (Answering reply st) is = (ap (option_map (advanced_arbiter advance)) is.0, is.1, is.2)
point_advances polls replies clock advance found Stopped is = (is.0, ap (option_map (advanced_arbiter advance)) is.1)

module _ (s : Settings) (t : Timing) (times : Lease) (b : Beside) (has : HasBeside s t times b) where
  abbrev w : ArbiterWorld
  w = run_beside s t times has.events

  abbrev with_host : Option ArbiterHost → List (ℕ × List ℕ) → Beside
  with_host host replied = record { joint = b.joint; arbiter = host; replied = replied }

  -- the arbiter of the world is another, and nothing was sent there
  becomes : {arbiter : Option Arbiter} (host : Option ArbiterHost) (replied : List (ℕ × List ℕ)) → Goes s t times w has.world.events arbiter w.pollers
      → ArbiterAs host w.polls w.replies arbiter
      → ((to : ℕ) (bytes : List ℕ) (reply : Reply) → Contains replied (to, bytes) → reply_of bytes ≡ Some reply → Contains w.replies reply)
      → HasBeside s t times (with_host host replied)
  becomes {arbiter} host replied g runs known =
      reached s t times w (with_host host replied) has.world has.world.events refl arbiter w.pollers g
      (record { hosts = has.is.hosts; runs = runs; replied = known; polled = has.is.polled })

  -- no event
  rests : Goes s t times w has.world.events w.arbiter w.pollers
  rests = stays s t times has.events has.world.events has.may has.same

  -- what was sent before, where the call sends nothing
  sent_before : (made asked : Call) → sent_by asked ≡ [] → Some asked ≡ Some (blank made) → (to : ℕ) (bytes : List ℕ) (reply : Reply) → Contains (b.replied ++ sent_by made) (to, bytes)
      → reply_of bytes ≡ Some reply → Contains w.replies reply
  sent_before made asked none e to bytes reply there reads =
      has.is.replied to bytes reply
      (subst (λ l. Contains l (to, bytes)) (ap (λ l. b.replied ++ l) (sends_nothing made asked none e) ∙ append-nil b.replied) there) reads

  pub begins : (base : ℕ) → b.arbiter ≡ None → HasBeside s t times (happens_beside s times (ArbiterBegins base) b)
  unfolding happens_beside
  begins base off =
      becomes (Some (record { clock = base; point = Starting })) b.replied rests (subst (λ a. ArbiterAs a w.polls w.replies w.arbiter) off has.is.runs) has.is.replied

  pub ends : HasBeside s t times (happens_beside s times ArbiterEnds b)
  unfolding happens_beside
  ends = becomes None b.replied (ends_arbiter s t times has.events has.world.events has.may has.same) refl has.is.replied

  -- a packet that is a poll
  poll_known : (got : Received) → MayHearPoll got b.joint.sent → (poll : Poll) → poll_in got ≡ Some poll → IsKnown w.polls poll
  poll_known (received.Packet bytes) may poll e =
      record { there = has.is.polled bytes poll (may (ap is_some e)) e; formed = (poll_read bytes poll e).well_formed }
  poll_known received.Nothing may poll e = none_is_not_some poll e
  poll_known received.Failed may poll e = none_is_not_some poll e

  module _ (host : ArbiterHost) (made : Call) (replies_back : (reply : Reply) → is_reply reply ≡ true → reply_of (reply_bytes reply) ≡ Some reply) where
    abbrev onward : Point → Beside
    onward point = with_host (Some (record { clock = host.clock; point = point })) (b.replied ++ sent_by made)

    -- its clock was looked at for the first time
    starts : w.arbiter ≡ None → Some (call.Now 0) ≡ Some (blank made) → time_of made ≡ tick_of host.clock → HasBeside s t times (onward (after_made times.lease Starting made))
    starts off asked told =
        becomes (Some (record { clock = host.clock; point = after_made times.lease Starting made })) (b.replied ++ sent_by made)
        (boots_arbiter s t times has.events has.world.events has.may has.same host.clock off)
        (ap (λ k. Some (record { clock = host.clock; memory = fresh_memory times.lease k })) (sym told))
        (sent_before made (call.Now 0) refl asked)

    -- a packet was received, or none
    waits : (st : Serving) → w.arbiter ≡ Some (record { clock = host.clock; memory = st.memory }) → Some (call.Receive received.Nothing) ≡ Some (blank made)
        → (found : Option Poll) → ((poll : Poll) → found ≡ Some poll → IsKnown w.polls poll) → HasBeside s t times (onward (waiting_with st found))
    waits st runs asked None known =
        becomes (Some (record { clock = host.clock; point = Waiting st })) (b.replied ++ sent_by made) rests runs (sent_before made (call.Receive received.Nothing) refl asked)
    waits st runs asked (Some poll) known =
        let it = known poll refl in
        becomes (Some (record { clock = host.clock; point = Asked poll st })) (b.replied ++ sent_by made) rests (runs, it.there, it.formed)
        (sent_before made (call.Receive received.Nothing) refl asked)

    -- a poll is heard at the tick of its clock
    answers : (poll : Poll) (st : Serving) (tick : ℕ) → w.arbiter ≡ Some (record { clock = host.clock; memory = st.memory }) → Contains w.polls poll → is_poll poll ≡ true
        → Some (call.Now 0) ≡ Some (blank made) → tick ≡ tick_of host.clock → (back : Bool)
        → HasBeside s t times (onward (if back then Stopped else Answering (reply_at tick poll st.memory) (record { memory = with_poll tick poll st.memory; tick = tick })))
    answers poll st tick runs there formed asked told true =
        becomes (Some (record { clock = host.clock; point = Stopped })) (b.replied ++ sent_by made) rests (st.memory, runs) (sent_before made (call.Now 0) refl asked)
    answers poll st tick runs there formed asked told false = record {
      events = h.events';
      may = h.may';
      world = has.world;
      same = h.same';
      is = record {
        hosts = λ r. subst (λ f. HostAs times.limit r after.polls after.replies (f r) (b.joint.hosts r)) (sym h.pollers) (host_wider r polls replies (has.is.hosts r));
        runs = (
          h.arbiter_is ∙ ap (λ k. Some (record { clock = host.clock; memory = with_poll k poll st.memory })) (sym told),
          subst (λ l. Contains l (reply_at tick poll st.memory)) (sym h.replies)
              (subst (λ r. Contains (w.replies ++ r ∷ []) (reply_at tick poll st.memory)) (ap (λ k. reply_at k poll st.memory) told) (Contains-push w.replies (reply_at tick poll st.memory))),
          reply_formed s poll (gives_yes st.memory tick poll) formed,
        );
        replied = λ to bytes reply found reads. replies reply (sent_before made (call.Now 0) refl asked to bytes reply found reads);
        polled = λ bytes q found reads. polls q (has.is.polled bytes q found reads);
      };
    }
      where
        arbiter : Arbiter
        arbiter = record { clock = host.clock; memory = st.memory }

        h : Heard s t times has.events has.world.events has.may has.same poll arbiter
        h = hears_poll s t times has.events has.world.events has.may has.same poll arbiter there runs

        after : ArbiterWorld
        after = run_beside s t times h.events'

        polls : Wider w.polls after.polls
        polls q found = subst (λ l. Contains l q) (sym h.polls) found

        replies : Wider w.replies after.replies
        replies r found = subst (λ l. Contains l r) (sym h.replies) (Contains-append_left w.replies _ r found)

    -- the reply was sent
    replies_sent : (reply : Reply) (st : Serving) → w.arbiter ≡ Some (record { clock = host.clock; memory = st.memory }) → Contains w.replies reply → is_reply reply ≡ true
        → Some (call.Send reply.to (reply_bytes reply) true) ≡ Some (blank made) → HasBeside s t times (onward (Waiting st))
    replies_sent reply st runs there formed asked =
        becomes (Some (record { clock = host.clock; point = Waiting st })) (b.replied ++ sent_by made) rests runs all
      where
        all : (to : ℕ) (bytes : List ℕ) (other : Reply) → Contains (b.replied ++ sent_by made) (to, bytes) → reply_of bytes ≡ Some other → Contains w.replies other
        all to bytes other found reads = by_case (Contains-append_cases b.replied (sent_by made) (to, bytes) found)
          where
            by_case : Contains b.replied (to, bytes) ⊎ Contains (sent_by made) (to, bytes) → Contains w.replies other
            by_case (inl old) = has.is.replied to bytes other old reads
            by_case (inr new) =
                subst (λ r. Contains w.replies r)
                (same_Some reply other (sym (replies_back reply formed) ∙ ap reply_of (sym (sends_reply made reply asked to bytes new)) ∙ reads)) there

    -- a call of the arbiter returns
    at_point : (point : Point) → PointAs host.clock w.polls w.replies w.arbiter point → asked_at point ≡ Some (blank made) → MayAnswerArbiter host b.joint.sent made
        → HasBeside s t times (onward (after_made times.lease point made))
    at_point Starting is asked may = starts is asked (tells made (tick_of host.clock) asked (λ k same. subst (λ c. MayAnswerArbiter host b.joint.sent c) same may))
    at_point (Waiting st) is asked may = waits st is asked (poll_in (received_in made)) (poll_known (received_in made) (hears_so made asked may))
      where
        hears_so : (c : Call) → Some (call.Receive received.Nothing) ≡ Some (blank c) → MayAnswerArbiter host b.joint.sent c → MayHearPoll (received_in c) b.joint.sent
        hears_so (call.Receive got) e m = m
        hears_so (call.Now tick) e m = absurd cc
        hears_so (call.Read sector read ok) e m = absurd cc
        hears_so (call.Write sector written ok) e m = absurd cc
        hears_so (call.Feed ok) e m = absurd cc
        hears_so (call.Start ok) e m = absurd cc
        hears_so (call.Stop ok) e m = absurd cc
        hears_so (call.Send to bytes ok) e m = absurd cc
        hears_so (call.Disarm ok) e m = absurd cc
        hears_so (call.Halt code) e m = absurd cc
        hears_so (call.OpenImage path ok) e m = absurd cc
        hears_so (call.OpenNode images image watchdog resource port owner ok) e m = absurd cc
    at_point (Asked poll st) is asked may =
        answers poll st (time_of made) is.0 is.1 is.2 asked (tells made (tick_of host.clock) asked (λ k same. subst (λ c. MayAnswerArbiter host b.joint.sent c) same may)) (nat_lt (time_of made) st.tick)
    at_point (Answering reply st) is asked may = replies_sent reply st is.0 is.1 is.2 asked
    at_point Stopped is asked may = none_is_not_some _ asked

  pub arbiter_returns : (made : Call) → ((reply : Reply) → is_reply reply ≡ true → reply_of (reply_bytes reply) ≡ Some reply) → MayHappenBeside s t times (ArbiterReturns made) b
      → HasBeside s t times (happens_beside s times (ArbiterReturns made) b)
  unfolding happens_beside
  arbiter_returns made back may = by_host b.arbiter may has.is.runs
    where
      by_host : (found : Option ArbiterHost) → MayReturnArbiter found made b.joint.sent → ArbiterAs found w.polls w.replies w.arbiter
          → HasBeside s t times (with_host (option_map (arbiter_moved times.lease made) found) (b.replied ++ sent_by made))
      by_host None allowed is = absurd allowed
      by_host (Some host) allowed is = at_point host made back host.point is allowed.0 allowed.1

  -- time passes while an arbiter runs
  pub passes : (dt : ℕ) (clocks : List (Rank × ℕ)) (advance : ℕ) → EachIsOneEvent s t → FitsImage s t → MayHappenBeside s t times (PassesWith dt clocks advance) b
      → HasBeside s t times (happens_beside s times (PassesWith dt clocks advance) b)
  unfolding happens_beside
  passes dt clocks advance each fits may =
      clocks_pass s t times b has dt clocks (option_map (advanced_host) b.arbiter) (pass_step s t times b has each fits dt clocks may.0)
      (passes_with s t times has.events has.world.events has.may has.same dt clocks advance may.2 (pass_may s t times b has each fits dt clocks may.0))
      (by_host b.arbiter has.is.runs)
    where
      advanced_host : ArbiterHost → ArbiterHost
      advanced_host host = record { clock = host.clock + advance; point = host.point }

      by_host : (found : Option ArbiterHost) → ArbiterAs found w.polls w.replies w.arbiter
          → ArbiterAs (option_map advanced_host found) w.polls w.replies (option_map (advanced_arbiter advance) w.arbiter)
      by_host None is = ap (option_map (advanced_arbiter advance)) is
      by_host (Some host) is = point_advances w.polls w.replies host.clock advance w.arbiter host.point is

-- Running nodes beside a running arbiter are a world beside an arbiter.
use Rattle.std.proofs.Common.{◌≡◌, ◌≤◌, ℕ, Bool, true, false, not, ◌&&◌, ◌==◌, List, [], ◌∷◌, ◌++◌, Option, None, Some, if◌then◌else◌, suc, unwrap_or, refl, sym, ap, subst, ◌∙◌, length}
use Rattle.std.specs.Prelude.{Contains, ◌<◌, option_map}
use Rattle.std.proofs.lemmas.Bool.{eqb-true, true≢false}
use Rattle.std.proofs.lemmas.List.Elements.{Contains-append_left, Contains-push}
use Rattle.std.proofs.lemmas.Option.{same_Some}
use Rattle.qn_base.specs.declared.ids.View.{View}
use Rattle.qn_base.specs.lemmas.Options.{none_is_not_some}
use Rattle.qn_model.specs.declared.configuration.Settings.{Settings}
use Rattle.qn_model.specs.declared.times.Timing.{Timing}
use Rattle.qn_model.specs.declared.life.Phase.{Phase}
use Rattle.qn_model.specs.declared.life.Phase.TheVariants.{Booting, Up, Leaving, Dying, Gone}
use Rattle.qn_model.specs.declared.entries.What.{What}
use Rattle.qn_model.specs.declared.outputs.DiskOp.{DiskOp}
use Rattle.qn_model.specs.declared.packets.Sent.{Sent}
use Rattle.qn_model.specs.Log.{Line, incarnation, now}
use Rattle.qn_model.specs.NodeVotes.{install, view}
use Rattle.qn_model.specs.Moments.{Running, is_gone, tick_of}
use Rattle.qn_model.specs.Phases.{is_up, phase}
use Rattle.qn_model.specs.Steps.{run}
use Rattle.qn_model.specs.Wanted.{rank_of}
use Rattle.qn_model.specs.World.{node_at}
use Rattle.qn_safety.specs.declared.arbiter_event.ArbiterEvent.{ArbiterEvent}
use Rattle.qn_safety.specs.declared.lease.Lease.{Lease}
use Rattle.qn_safety.specs.declared.polls.Poll.{Poll}
use Rattle.qn_safety.specs.declared.polls.Reply.{Reply}
use Rattle.qn_safety.specs.Arbiter.{Memory}
use Rattle.qn_safety.specs.ArbiterNumbers.{AllMayBeside}
use Rattle.qn_safety.specs.ArbiterSteps.{run_beside}
use Rattle.qn_safety.specs.ArbiterWorld.{Arbiter, ArbiterWorld, standing_in, standing_of}
use Rattle.qn_safety.specs.Poller.{Poller, SentPoll, Standing, next_poll, with_sent}
use Rattle.qn_polls.specs.Polls.{is_poll, is_reply}
use Rattle.qn_polls.specs.Reading.{poll_of, reply_of}
use Rattle.qn_leases.specs.Points.{Point, Starting, Waiting, Asked, Answering, Stopped}
use Rattle.qn_live.specs.declared.place.Choice.{Choice}
use Rattle.qn_live.specs.declared.place.Choice.TheVariants as choice
use Rattle.qn_live.specs.Polling.{arbiter_seat, shown}
use Rattle.qn_live.specs.Running.{RunState}
use Rattle.qn_joined.specs.Joints.{Host}
use Rattle.qn_joined.specs.Stands.{Spot, Receiving, Looking, Acting, Polling, Saying, Parting, Ended, Stand, first_stand, log_at}
use Rattle.qn_joined.specs.WorldOf.{HasWorld, IsNode}
use Rattle.qn_beside.specs.Beside.{ArbiterHost, Beside}
use Rattle.qn_beside.proofs.Going.{PollGoes, poll_goes}
use Rattle.qn_beside.proofs.Pollers.{ChoiceAs, IsPolling, IsToPoll, PollsAs, SpotAs, SpotWith, WasPolled}

-- what was sent is among what was sent later
abbrev pub Wider : {A : Type 0} → List A → List A → Type 0
Wider {A} some more = (x : A) → Contains some x → Contains more x

-- where the arbiter stands, and the one of the world
abbrev pub PointAs : ℕ → List Poll → List Reply → Option Arbiter → Point → Type 0
PointAs clock polls replies found Starting = found ≡ None
PointAs clock polls replies found (Waiting st) = found ≡ Some (record { clock = clock; memory = st.memory })
PointAs clock polls replies found (Asked poll st) =
    (found ≡ Some (record { clock = clock; memory = st.memory })) × Contains polls poll × (is_poll poll ≡ true)
PointAs clock polls replies found (Answering reply st) =
    (found ≡ Some (record { clock = clock; memory = st.memory })) × Contains replies reply × (is_reply reply ≡ true)
PointAs clock polls replies found Stopped = (memory : Memory) × (found ≡ Some (record { clock = clock; memory = memory }))

abbrev pub ArbiterAs : Option ArbiterHost → List Poll → List Reply → Option Arbiter → Type 0
ArbiterAs None polls replies found = found ≡ None
ArbiterAs (Some host) polls replies found = PointAs host.clock polls replies found host.point

-- a process that has not looked at its clock polls within this limit
pub record IsFirst (limit : ℕ) (stand : Stand) : Type 0 where
  pub clean : Bool
  pub turns : ℕ
  pub first : stand ≡ first_stand clean (Some limit) turns

-- a host polls as the world does
pub record HostAs (limit rank : ℕ) (polls : List Poll) (replies : List Reply) (world : Poller) (host : Host) : Type 0 where
  pub asked : host.on ≡ true → host.asked ≡ true → SpotAs rank polls replies world host.stand.spot
  pub fresh : host.on ≡ true → host.asked ≡ false → IsFirst limit host.stand

-- all nodes poll as these pollers do, the arbiter is this one, and what was sent are these polls and replies
pub record IsBesideAs (times : Lease) (b : Beside) (polls : List Poll) (replies : List Reply) (arbiter : Option Arbiter) (pollers : ℕ → Poller) : Type 0 where
  pub hosts : (rank : ℕ) → HostAs times.limit rank polls replies (pollers rank) (b.joint.hosts rank)
  pub runs : ArbiterAs b.arbiter polls replies arbiter
  pub replied : (to : ℕ) (bytes : List ℕ) (reply : Reply) → Contains b.replied (to, bytes) → reply_of bytes ≡ Some reply → Contains replies reply
  pub polled : (bytes : List ℕ) (poll : Poll) → Contains b.joint.sent (arbiter_seat, bytes) → poll_of bytes ≡ Some poll → Contains polls poll

-- those of a world
abbrev pub IsBeside : Lease → Beside → ArbiterWorld → Type 0
IsBeside times b w = IsBesideAs times b w.polls w.replies w.arbiter w.pollers

-- events that may happen led to a world beside an arbiter that this is
pub record HasBeside (s : Settings) (t : Timing) (times : Lease) (b : Beside) : Type 0 where
  pub events : List ArbiterEvent
  pub may : AllMayBeside s t times events
  pub world : HasWorld s t b.joint
  pub same : (run_beside s t times events).world ≡ run s t world.events
  pub is : IsBeside times b (run_beside s t times events)

-- ## More that was sent

choice_wider : (rank : ℕ) (replies more : List Reply) (chosen : Choice) → Wider replies more → ChoiceAs rank replies chosen → ChoiceAs rank more chosen
choice_wider rank replies more (choice.Whole entry) wider is = is
choice_wider rank replies more (choice.Open p) wider is = tt
choice_wider rank replies more (choice.Answer reply) wider is = (is.0, wider reply is.1)

pub spot_wider : (polls polls' : List Poll) (replies replies' : List Reply) (rank : ℕ) (world : Poller) (spot : Spot) → Wider polls polls' → Wider replies replies'
    → SpotAs rank polls replies world spot → SpotAs rank polls' replies' world spot
spot_wider polls polls' replies replies' rank world (Receiving st) wider more is = is
spot_wider polls polls' replies replies' rank world (Looking chosen) wider more is = (is.0, choice_wider rank replies replies' chosen.0 more is.1)
spot_wider polls polls' replies replies' rank world (Acting entry outs o rest st) wider more is = is
spot_wider polls polls' replies replies' rank world (Polling poll sents st) wider more is = (is.0, wider poll is.1)
spot_wider polls polls' replies replies' rank world (Saying sent rest st) wider more is = is
spot_wider polls polls' replies replies' rank world (Parting end sent rest st) wider more is = tt
spot_wider polls polls' replies replies' rank world (Ended ran) wider more is = tt

pub host_wider : {limit : ℕ} {polls polls' : List Poll} {replies replies' : List Reply} {world : Poller} {host : Host} (rank : ℕ) → Wider polls polls' → Wider replies replies'
    → HostAs limit rank polls replies world host → HostAs limit rank polls' replies' world host
host_wider {polls = polls} {polls' = polls'} {replies = replies} {replies' = replies'} {world = world} {host = host} rank wider more is = record {
  asked = λ on asked. spot_wider polls polls' replies replies' rank world host.stand.spot wider more (is.asked on asked);
  fresh = is.fresh;
}

point_wider : (polls polls' : List Poll) (replies replies' : List Reply) (clock : ℕ) (found : Option Arbiter) (point : Point) → Wider polls polls' → Wider replies replies'
    → PointAs clock polls replies found point → PointAs clock polls' replies' found point
point_wider polls polls' replies replies' clock found Starting wider more is = is
point_wider polls polls' replies replies' clock found (Waiting st) wider more is = is
point_wider polls polls' replies replies' clock found (Asked poll st) wider more is = (is.0, wider poll is.1, is.2)
point_wider polls polls' replies replies' clock found (Answering reply st) wider more is = (is.0, more reply is.1, is.2)
point_wider polls polls' replies replies' clock found Stopped wider more is = is

pub arbiter_wider : (polls polls' : List Poll) (replies replies' : List Reply) (host : Option ArbiterHost) (found : Option Arbiter) → Wider polls polls' → Wider replies replies'
    → ArbiterAs host polls replies found → ArbiterAs host polls' replies' found
arbiter_wider polls polls' replies replies' None found wider more is = is
arbiter_wider polls polls' replies replies' (Some host) found wider more is = point_wider polls polls' replies replies' host.clock found host.point wider more is

-- ## A poll

-- a host that is to poll: all else polls as the world does
pub record IsNearlyAs (s : Settings) (times : Lease) (rank : ℕ) (b : Beside) (polls : List Poll) (replies : List Reply) (arbiter : Option Arbiter) (pollers : ℕ → Poller) : Type 0 where
  pub own : SpotWith (IsToPoll s rank (pollers rank)) rank replies (pollers rank) (b.joint.hosts rank).stand.spot
  pub on : (b.joint.hosts rank).on ≡ true
  pub asked : (b.joint.hosts rank).asked ≡ true
  pub others : (r : ℕ) → (rank == r) ≡ false → HostAs times.limit r polls replies (pollers r) (b.joint.hosts r)
  pub runs : ArbiterAs b.arbiter polls replies arbiter
  pub replied : (to : ℕ) (bytes : List ℕ) (reply : Reply) → Contains b.replied (to, bytes) → reply_of bytes ≡ Some reply → Contains replies reply
  pub polled : (bytes : List ℕ) (poll : Poll) → Contains b.joint.sent (arbiter_seat, bytes) → poll_of bytes ≡ Some poll → Contains polls poll

abbrev pub IsNearly : Settings → Lease → ℕ → Beside → ArbiterWorld → Type 0
IsNearly s times rank b w = IsNearlyAs s times rank b w.polls w.replies w.arbiter w.pollers

-- the poll is sent where one is to be
pub data ToPoll (s : Settings) (rank : ℕ) (polls : List Poll) (replies : List Reply) (world : Poller) (spot : Spot) : Type 0 where
  NoPoll : SpotAs rank polls replies world spot → ToPoll s rank polls replies world spot
  OnePoll : (poll : Poll) (st : RunState) → IsToPoll s rank world poll st → log_at spot ≡ st.log
      → ((polls' : List Poll) (world' : Poller) → WasPolled polls' world' poll st → SpotAs rank polls' replies world' spot)
      → ToPoll s rank polls replies world spot

to_poll : (s : Settings) (rank : ℕ) (polls : List Poll) (replies : List Reply) (world : Poller) (spot : Spot) → SpotWith (IsToPoll s rank world) rank replies world spot
    → ToPoll s rank polls replies world spot
to_poll s rank polls replies world (Receiving st) is = NoPoll is
to_poll s rank polls replies world (Looking chosen) is = NoPoll is
to_poll s rank polls replies world (Acting entry outs o rest st) is = NoPoll is
to_poll s rank polls replies world (Polling poll sents st) is = OnePoll poll st is refl (λ polls' world' was. was)
to_poll s rank polls replies world (Saying sent rest st) is = NoPoll is
to_poll s rank polls replies world (Parting end sent rest st) is = NoPoll tt
to_poll s rank polls replies world (Ended ran) is = NoPoll tt

-- one rank's, and all others'
pub each_rank : (P : ℕ → Type 0) (rank : ℕ) → P rank → ((r : ℕ) → (rank == r) ≡ false → P r) → (r : ℕ) → P r
each_rank P rank own others r = by_owner (rank == r) refl
  where
    by_owner : (b : Bool) → (rank == r) ≡ b → P r
    by_owner true e = subst P (eqb-true rank r e) own
    by_owner false e = others r e

-- a node that is up is not gone
up_lives : (p : Phase) → is_up p ≡ true → is_gone p ≡ false
up_lives Up e = refl
up_lives Booting e = refl
up_lives Leaving e = refl
up_lives Dying e = refl
up_lives Gone e = absurd cc

abbrev standing_then : List Line → View → Standing
standing_then log seen = record { tick = now log; incarnation = unwrap_or (incarnation log) 0; install = install log; view = seen }

-- a node that shows something is up and has a view
record IsShown (s : Settings) (log : List Line) (at : Standing) : Type 0 where
  seen : View
  up : is_up (phase s log) ≡ true
  sees : view log ≡ Some seen
  is : at ≡ standing_then log seen

shown_parts : (s : Settings) (log : List Line) (at : Standing) → shown s log ≡ Some at → IsShown s log at
shown_parts s log at e = by_up (is_up (phase s log)) refl e
  where
    by_view : (o : Option View) → view log ≡ o → option_map (standing_then log) o ≡ Some at → is_up (phase s log) ≡ true → IsShown s log at
    by_view None sees none up = none_is_not_some at none
    by_view (Some seen) sees some up = record { seen = seen; up = up; sees = sees; is = sym (same_Some (standing_then log seen) at some) }

    by_up : (b : Bool) → is_up (phase s log) ≡ b → (if b then option_map (standing_then log) (view log) else None) ≡ Some at → IsShown s log at
    by_up false up none = none_is_not_some at none
    by_up true up some = by_view (view log) refl some up

-- what the node of the world shows then, no earlier
record Shows (s : Settings) (rank : ℕ) (n : Running) (before world : Poller) (at : Standing) : Type 0 where
  standing : Standing
  stands : standing_of s n ≡ Some standing
  later : at.tick ≤ standing.tick
  same : next_poll (rank_of rank) standing world ≡ next_poll (rank_of rank) at before

shows_then : {s : Settings} {rank : ℕ} {host : Host} {n : Running} {took : Option What} {left : List DiskOp} {all : List Sent} {before world : Poller} (at : Standing)
    → IsNode s rank host n took left all → host.on ≡ true → host.asked ≡ true → shown s (log_at host.stand.spot) ≡ Some at → PollsAs before world
    → Shows s rank n before world at
shows_then {s} {rank} {host} {n} {before = before} {world = world} at is on asked shows alike = record {
  standing = standing_in n it.seen;
  stands =
      ap (λ b. if b && is_up (phase s n.log) then option_map (standing_in n) (view n.log) else None) lives
      ∙ ap (λ b. if b then option_map (standing_in n) (view n.log) else None) (ap (λ l. is_up (phase s l)) log_is ∙ it.up)
      ∙ ap (λ o. option_map (standing_in n) o) (ap view log_is ∙ it.sees);
  later = subst (λ (x : Standing). x.tick ≤ tick_of n.clock) (sym it.is) (subst (λ l. now l ≤ tick_of n.clock) log_is (is.tick lives));
  same =
      ap (λ l. record { from = rank_of rank; number = world.count; incarnation = unwrap_or (incarnation l) 0; install = install l; view = it.seen }) log_is
      ∙ ap (λ k. record { from = rank_of rank; number = k; incarnation = unwrap_or (incarnation log) 0; install = install log; view = it.seen }) alike.count
      ∙ ap (λ (x : Standing). next_poll (rank_of rank) x before) (sym it.is);
}
  where
    log : List Line
    log = log_at host.stand.spot

    it : IsShown s log at
    it = shown_parts s log at shows

    lives : n.on ≡ true
    lives = is.on ∙ ap (λ b. b && host.asked && not (is_gone (phase s log))) on ∙ ap (λ b. b && not (is_gone (phase s log))) asked ∙ ap not (up_lives (phase s log) it.up)

    log_is : n.log ≡ log
    log_is = is.log lives

polled_as : {before world : Poller} (rank : ℕ) (at standing : Standing) → PollsAs before world → at.tick ≤ standing.tick
    → next_poll (rank_of rank) standing world ≡ next_poll (rank_of rank) at before → PollsAs (with_sent (rank_of rank) at before) (with_sent (rank_of rank) standing world)
polled_as {before} {world} rank at standing alike later same = record {
  limit = alike.limit;
  count = ap suc alike.count;
  last = λ sent e.
      let is : record { tick = at.tick; poll = next_poll (rank_of rank) at before } ≡ sent = same_Some _ sent e in (
        standing.tick,
        subst (λ (x : SentPoll). x.tick ≤ standing.tick) is later,
        ap (λ p. Some (record { tick = standing.tick; poll = p })) (same ∙ ap (λ (x : SentPoll). x.poll) is),
      );
}

module _ (s : Settings) (t : Timing) (times : Lease) (b : Beside) (world : HasWorld s t b.joint) (events : List ArbiterEvent) (may : AllMayBeside s t times events)
    (same : (run_beside s t times events).world ≡ run s t world.events) (rank : ℕ) (below : rank < length s.nodes) (near : IsNearly s times rank b (run_beside s t times events)) where
  abbrev w : ArbiterWorld
  w = run_beside s t times events

  abbrev host : Host
  host = b.joint.hosts rank

  no_poll : SpotAs rank w.polls w.replies (w.pollers rank) host.stand.spot → HasBeside s t times b
  no_poll is = record {
    events = events;
    may = may;
    world = world;
    same = same;
    is = record {
      hosts = each_rank (λ r. HostAs times.limit r w.polls w.replies (w.pollers r) (b.joint.hosts r)) rank
          (record { asked = λ on asked. is; fresh = λ on unasked. absurd (true≢false (sym near.asked ∙ unasked)) }) near.others;
      runs = near.runs;
      replied = near.replied;
      polled = near.polled;
    };
  }

  one_poll : (poll : Poll) (st : RunState) → (p : IsToPoll s rank (w.pollers rank) poll st) → log_at host.stand.spot ≡ st.log
      → ((polls' : List Poll) (world' : Poller) → WasPolled polls' world' poll st → SpotAs rank polls' w.replies world' host.stand.spot) → HasBeside s t times b
  one_poll poll st p log_is back = record {
    events = g.events;
    may = g.may;
    world = world;
    same = g.same;
    is = record {
      hosts = each_rank (λ r. HostAs times.limit r after.polls after.replies (after.pollers r) (b.joint.hosts r)) rank
          (record { asked = λ on asked. own; fresh = λ on unasked. absurd (true≢false (sym near.asked ∙ unasked)) })
          (λ r apart. subst (λ x. HostAs times.limit r after.polls after.replies x (b.joint.hosts r)) (sym (g.others r apart)) (host_wider r polls replies (near.others r apart)));
      runs = subst (λ a. ArbiterAs b.arbiter after.polls after.replies a) (sym g.arbiter_is) (arbiter_wider w.polls after.polls w.replies after.replies b.arbiter w.arbiter polls replies near.runs);
      replied = λ to bytes reply there e. replies reply (near.replied to bytes reply there e);
      polled = λ bytes q there e. polls q (near.polled bytes q there e);
    };
  }
    where
      shows : Shows s rank (node_at s rank (run s t world.events)) p.before (w.pollers rank) p.at
      shows = shows_then p.at (world.world.nodes rank below) near.on near.asked (ap (shown s) log_is ∙ p.shows) p.alike

      g : PollGoes s t times w rank shows.standing world.events
      g = poll_goes s t times events world.events may same rank shows.standing below (ap (λ x. standing_of s (node_at s rank x)) same ∙ shows.stands)

      after : ArbiterWorld
      after = run_beside s t times g.events

      polls : Wider w.polls after.polls
      polls q there = subst (λ l. Contains l q) (sym g.polls) (Contains-append_left w.polls _ q there)

      replies : Wider w.replies after.replies
      replies r there = subst (λ l. Contains l r) (sym g.replies) there

      polling : IsPolling st (after.pollers rank)
      polling = record {
        poller = with_sent (rank_of rank) p.at p.before;
        has = p.has;
        alike = subst (λ x. PollsAs (with_sent (rank_of rank) p.at p.before) x) (sym g.own) (polled_as rank p.at shows.standing p.alike shows.later shows.same);
        calm = p.calm;
      }

      own : SpotAs rank after.polls after.replies (after.pollers rank) host.stand.spot
      own =
          subst (λ l. SpotAs rank after.polls l (after.pollers rank) host.stand.spot) (sym g.replies)
          (back after.polls (after.pollers rank) (
            polling,
            subst (λ l. Contains l poll) (sym g.polls) (subst (λ q. Contains (w.polls ++ q ∷ []) poll) (p.is ∙ sym shows.same) (Contains-push w.polls poll)),
          ))

  -- once the poll of a host is sent, all is as in the world
  pub finishes : HasBeside s t times b
  finishes = by_poll (to_poll s rank w.polls w.replies (w.pollers rank) host.stand.spot near.own)
    where
      by_poll : ToPoll s rank w.polls w.replies (w.pollers rank) host.stand.spot → HasBeside s t times b
      by_poll (NoPoll is) = no_poll is
      by_poll (OnePoll poll st p log_is back) = one_poll poll st p log_is back

-- What happens beside a running arbiter happens in the world beside an arbiter.
use Rattle.std.proofs.Common.{◌≡◌, ℕ, List, Option, Some, refl, sym, ap, subst, ◌∙◌, length}
use Rattle.std.specs.Prelude.{Contains, ◌<◌}
use Rattle.std.proofs.lemmas.Option.{same_Some}
use Rattle.qn_base.specs.declared.calls.Call.{Call}
use Rattle.qn_base.specs.declared.calls.Call.TheVariants as call
use Rattle.qn_base.specs.Calls.{blank}
use Rattle.qn_base.specs.lemmas.Options.{none_is_not_some}
use Rattle.qn_io.specs.Answered.{received_in, time_of}
use Rattle.qn_model.specs.declared.configuration.Settings.{Settings}
use Rattle.qn_model.specs.declared.times.Timing.{Timing}
use Rattle.qn_model.specs.declared.events.Event.{Event}
use Rattle.qn_model.specs.declared.outputs.Out.{Out}
use Rattle.qn_model.specs.Steps.{run}
use Rattle.qn_safety.specs.declared.lease.Lease.{Lease}
use Rattle.qn_safety.specs.declared.polls.Poll.{Poll}
use Rattle.qn_safety.specs.declared.polls.Reply.{Reply}
use Rattle.qn_safety.specs.ArbiterSteps.{run_beside}
use Rattle.qn_safety.specs.ArbiterWorld.{Arbiter, ArbiterWorld}
use Rattle.qn_safety.specs.Poller.{Poller}
use Rattle.qn_live.specs.declared.place.Choice.{Choice}
use Rattle.qn_live.specs.Polling.{reply_in}
use Rattle.qn_live.specs.Running.{RunState}
use Rattle.qn_joined.specs.Joints.{Host, after_effect}
use Rattle.qn_joined.specs.Moves.{entry_handed}
use Rattle.qn_joined.specs.Stands.{Spot, Receiving, Looking, Acting, Polling, Saying, Parting, Ended, after_spot}
use Rattle.qn_joined.specs.WorldOf.{HasWorld}
use Rattle.qn_beside.specs.Beside.{Beside, poll_said}
use Rattle.qn_beside.proofs.Going.{Goes, LeftBy, hears}
use Rattle.qn_beside.proofs.Pollers.{IsToPoll, SpotAs, SpotWith, after_look, after_quiet}
use Rattle.qn_beside.proofs.Simulating.{ArbiterAs, HasBeside, HostAs, IsBesideAs, IsNearlyAs, finishes}

-- ## What a call tells

-- an answer of the clock
pub tells : (made : Call) (time : ℕ) → Some (call.Now 0) ≡ Some (blank made) → ((k : ℕ) → made ≡ call.Now k → k ≡ time) → time_of made ≡ time
tells (call.Now tick) time e told = told tick refl
tells (call.Receive got) time e told = absurd cc
tells (call.Read sector read ok) time e told = absurd cc
tells (call.Write sector written ok) time e told = absurd cc
tells (call.Feed ok) time e told = absurd cc
tells (call.Start ok) time e told = absurd cc
tells (call.Stop ok) time e told = absurd cc
tells (call.Send to bytes ok) time e told = absurd cc
tells (call.Disarm ok) time e told = absurd cc
tells (call.Halt code) time e told = absurd cc
tells (call.OpenImage path ok) time e told = absurd cc
tells (call.OpenNode images image watchdog resource port owner ok) time e told = absurd cc

-- a call keeps its host on, and asked
pub record StaysOn (host after : Host) : Type 0 where
  pub on : after.on ≡ host.on
  pub asked : after.asked ≡ host.asked

pub stays_on : (made : Call) (outs : List Out) (time : ℕ) (host : Host) → StaysOn host (after_effect made outs time host)
stays_on (call.Now tick) outs time host = record { on = refl; asked = refl }
stays_on (call.Receive got) outs time host = record { on = refl; asked = refl }
stays_on (call.Read sector read ok) outs time host = record { on = refl; asked = refl }
stays_on (call.Write sector written ok) outs time host = record { on = refl; asked = refl }
stays_on (call.Feed ok) outs time host = record { on = refl; asked = refl }
stays_on (call.Start ok) outs time host = record { on = refl; asked = refl }
stays_on (call.Stop ok) outs time host = record { on = refl; asked = refl }
stays_on (call.Send to bytes ok) outs time host = record { on = refl; asked = refl }
stays_on (call.Disarm ok) outs time host = record { on = refl; asked = refl }
stays_on (call.Halt code) outs time host = record { on = refl; asked = refl }
stays_on (call.OpenImage path ok) outs time host = record { on = refl; asked = refl }
stays_on (call.OpenNode images image watchdog resource port owner ok) outs time host = record { on = refl; asked = refl }

-- ## Where a run stands after a call

not_looking : (world after : Poller) (replies : List Reply) (s : Settings) (me : ℕ) (leave : Option ℕ) (turn more : ℕ) (polls : List Poll) (spot : Spot) (made : Call) → after ≡ world
    → ((reply : Reply) → reply_in (received_in made) ≡ Some reply → reply.to.0 ≡ me → Contains replies reply)
    → ((chosen : Choice × RunState) → spot ≡ Looking chosen → ⊥)
    → SpotAs me polls replies world spot → SpotWith (IsToPoll s me after) me replies after (after_spot s me leave turn more spot made).spot
not_looking world after replies s me leave turn more polls spot made same hears quiet is =
    subst (λ x. SpotWith (IsToPoll s me x) me replies x (after_spot s me leave turn more spot made).spot) (sym same)
    (after_quiet s me leave replies world turn more polls spot made hears quiet is)

pub spot_after : (world after : Poller) (replies : List Reply) (s : Settings) (me : ℕ) (leave : Option ℕ) (turn more : ℕ) (polls : List Poll) (spot : Spot) (made : Call)
    → LeftBy (entry_handed spot made) world after
    → ((reply : Reply) → reply_in (received_in made) ≡ Some reply → reply.to.0 ≡ me → Contains replies reply)
    → SpotAs me polls replies world spot → SpotWith (IsToPoll s me after) me replies after (after_spot s me leave turn more spot made).spot
spot_after world after replies s me leave turn more polls (Looking chosen) made left hears is =
    after_look s me leave replies world after turn more (time_of made) chosen made refl is.0 left
spot_after world after replies s me leave turn more polls (Receiving st) made left hears is = not_looking world after replies s me leave turn more polls (Receiving st) made left hears (λ chosen e. cc) is
spot_after world after replies s me leave turn more polls (Acting entry outs o rest st) made left hears is =
    not_looking world after replies s me leave turn more polls (Acting entry outs o rest st) made left hears (λ chosen e. cc) is
spot_after world after replies s me leave turn more polls (Polling poll sents st) made left hears is = not_looking world after replies s me leave turn more polls (Polling poll sents st) made left hears (λ chosen e. cc) is
spot_after world after replies s me leave turn more polls (Saying sent rest st) made left hears is = not_looking world after replies s me leave turn more polls (Saying sent rest st) made left hears (λ chosen e. cc) is
spot_after world after replies s me leave turn more polls (Parting end sent rest st) made left hears is =
    not_looking world after replies s me leave turn more polls (Parting end sent rest st) made left hears (λ chosen e. cc) is
spot_after world after replies s me leave turn more polls (Ended ran) made left hears is = not_looking world after replies s me leave turn more polls (Ended ran) made left hears (λ chosen e. cc) is

-- the poll that is sent where a run stands was sent in the world
pub said_there : (polls : List Poll) (replies : List Reply) (world : Poller) (rank : ℕ) (spot : Spot) (poll : Poll) → SpotAs rank polls replies world spot → poll_said spot ≡ Some poll → Contains polls poll
said_there polls replies world rank (Polling other sents st) poll is e = subst (λ p. Contains polls p) (same_Some other poll e) is.1
said_there polls replies world rank (Receiving st) poll is e = none_is_not_some poll e
said_there polls replies world rank (Looking chosen) poll is e = none_is_not_some poll e
said_there polls replies world rank (Acting entry outs o rest st) poll is e = none_is_not_some poll e
said_there polls replies world rank (Saying sent rest st) poll is e = none_is_not_some poll e
said_there polls replies world rank (Parting end sent rest st) poll is e = none_is_not_some poll e
said_there polls replies world rank (Ended ran) poll is e = none_is_not_some poll e

-- ## The world that is reached

module _ (s : Settings) (t : Timing) (times : Lease) (w : ArbiterWorld) (b : Beside) (world : HasWorld s t b.joint) (met : List Event) (met_is : world.events ≡ met)
    (arbiter : Option Arbiter) (pollers : ℕ → Poller) (g : Goes s t times w met arbiter pollers) where
  abbrev after : ArbiterWorld
  after = run_beside s t times g.events

  same_world : after.world ≡ run s t world.events
  same_world = g.same ∙ ap (run s t) (sym met_is)

  host_there : (rank : ℕ) → HostAs times.limit rank w.polls w.replies (pollers rank) (b.joint.hosts rank)
      → HostAs times.limit rank after.polls after.replies (after.pollers rank) (b.joint.hosts rank)
  host_there rank is =
      subst (λ x. HostAs times.limit rank after.polls after.replies x (b.joint.hosts rank)) (sym (g.pollers_are rank))
      (subst (λ l. HostAs times.limit rank after.polls l (pollers rank) (b.joint.hosts rank)) (sym g.replies)
      (subst (λ l. HostAs times.limit rank l w.replies (pollers rank) (b.joint.hosts rank)) (sym g.polls) is))

  runs_there : ArbiterAs b.arbiter w.polls w.replies arbiter → ArbiterAs b.arbiter after.polls after.replies after.arbiter
  runs_there is =
      subst (λ a. ArbiterAs b.arbiter after.polls after.replies a) (sym g.arbiter_is)
      (subst (λ l. ArbiterAs b.arbiter after.polls l arbiter) (sym g.replies) (subst (λ l. ArbiterAs b.arbiter l w.replies arbiter) (sym g.polls) is))

  pub reached : IsBesideAs times b w.polls w.replies arbiter pollers → HasBeside s t times b
  reached is = record {
    events = g.events;
    may = g.may;
    world = world;
    same = same_world;
    is = record {
      hosts = λ rank. host_there rank (is.hosts rank);
      runs = runs_there is.runs;
      replied = λ to bytes reply there e. subst (λ l. Contains l reply) (sym g.replies) (is.replied to bytes reply there e);
      polled = λ bytes poll there e. subst (λ l. Contains l poll) (sym g.polls) (is.polled bytes poll there e);
    };
  }

  -- and where a host is to poll
  pub reached_nearly : (rank : ℕ) → rank < length s.nodes → IsNearlyAs s times rank b w.polls w.replies arbiter pollers → HasBeside s t times b
  reached_nearly rank below is = finishes s t times b world g.events g.may same_world rank below (record {
    own =
        subst (λ x. SpotWith (IsToPoll s rank x) rank after.replies x (b.joint.hosts rank).stand.spot) (sym (g.pollers_are rank))
        (subst (λ l. SpotWith (IsToPoll s rank (pollers rank)) rank l (pollers rank) (b.joint.hosts rank).stand.spot) (sym g.replies) is.own);
    on = is.on;
    asked = is.asked;
    others = λ r apart. host_there r (is.others r apart);
    runs = runs_there is.runs;
    replied = λ to bytes reply there e. subst (λ l. Contains l reply) (sym g.replies) (is.replied to bytes reply there e);
    polled = λ bytes poll there e. subst (λ l. Contains l poll) (sym g.polls) (is.polled bytes poll there e);
  })

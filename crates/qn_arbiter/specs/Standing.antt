-- What a world of the code beside an arbiter stands for: a world of the definitions that allowed events lead to.
use Rattle.std.specs.Prelude.{◌≡◌, ◌<◌, ◌≤◌, ◌+◌, ◌^◌, ℕ, List, Option, None, Some, length, slice_get}
use Rattle.qn_polls.specs.Arbiter.{ArbiterFor as MemoryFor}
use Rattle.qn_base.specs.declared.ids.Rank.{Rank}
use Rattle.qn_cluster.specs.Standing.{latest_clock}
use Rattle.qn_safety.specs.declared.arbiter_event.ArbiterEvent.{ArbiterEvent}
use Rattle.qn_safety.specs.declared.lease.Lease.{Lease}
use Rattle.qn_safety.specs.declared.polls.Poll.{Poll}
use Rattle.qn_safety.specs.declared.polls.Reply.{Reply}
use Rattle.qn_safety.specs.ArbiterSteps.{AllAllowedBeside, run_beside}
use Rattle.qn_safety.specs.ArbiterWorld.{Arbiter, ArbiterWorld}
use Rattle.qn_safety.specs.Poller.{Poller}
use Rattle.qn_model.specs.declared.configuration.Settings.{Settings}
use Rattle.qn_model.specs.declared.times.Timing.{Timing}
use Rattle.qn_model.specs.Moments.{time}
use Rattle.qn_world.specs.Standing.{WorldFor}
use Rattle.qn_arbiter.specs.declared.running.RunningArbiter.{RunningArbiter}
use Rattle.qn_arbiter.specs.Whole.{Kept, Whole, whole_of}

-- an arbiter that runs stands for one of the definition
pub record RunsFor (running : RunningArbiter) (arbiter : Arbiter) : Type 0 where
  pub clock : running.clock ≡ arbiter.clock
  pub memory : MemoryFor running.memory arbiter.memory

-- both are off, or both run
abbrev pub RunsOrOff : Option RunningArbiter → Option Arbiter → Type 0
RunsOrOff None None = Unit {0}
RunsOrOff (Some running) (Some arbiter) = RunsFor running arbiter
RunsOrOff None (Some arbiter) = ⊥
RunsOrOff (Some running) None = ⊥

-- the clock of an arbiter that runs can advance by so many hundredths
abbrev pub HasRoomFor : Option RunningArbiter → ℕ → Type 0
HasRoomFor None hundredths = Unit {0}
HasRoomFor (Some running) hundredths = running.clock + hundredths < 2 ^ 64

-- the clock of an arbiter that runs began at 1000000000000000 or less, and advanced by 101 a millisecond or less
abbrev pub IsEarly : Option Arbiter → ℕ → Type 0
IsEarly None now = Unit {0}
IsEarly (Some arbiter) now = arbiter.clock ≤ latest_clock now

-- the pollers by rank
pub record PollersFor (all : List Poller) (pollers : ℕ → Poller) : Type 0 where
  pub each : (rank : ℕ) → rank < 32 → slice_get all rank ≡ Some (pollers rank)

-- a rank, where there is one, is below a number
abbrev pub IsRankWithin : ℕ → Option Rank → Type 0
IsRankWithin count None = Unit {0}
IsRankWithin count (Some rank) = rank.0 < count

-- the polls, and the replies, are of configured nodes
abbrev pub AreSent : Settings → List Poll → Type 0
AreSent s polls = (number : ℕ) (poll : Poll) → slice_get polls number ≡ Some poll → poll.from.0 < length s.nodes

abbrev pub AreAnswers : Settings → List Reply → Type 0
AreAnswers s replies = (number : ℕ) (reply : Reply) → slice_get replies number ≡ Some reply → reply.to.0 < length s.nodes

-- What is kept stands for a world of the definitions, part by part; and its numbers fit.
pub record KeptFor (k : Kept) (d : ArbiterWorld) : Type 0 where
  pub world : WorldFor k.world d.world
  pub arbiter : RunsOrOff k.arbiter d.arbiter
  pub early : IsEarly d.arbiter (time d.world.moments)
  pub pollers : PollersFor k.pollers d.pollers
  pub counts : (rank : ℕ) → (d.pollers rank).count ≤ length d.polls
  pub polls : k.polls ≡ d.polls
  pub replies : k.replies ≡ d.replies
  pub senders : AreSent k.world.settings d.polls
  pub receivers : AreAnswers k.world.settings d.replies

-- what is kept stands for a world of the definitions
abbrev pub IsStanding : Kept → Type 0
IsStanding k = (d : ArbiterWorld) × KeptFor k d

-- a list of events, each well formed and allowed in its turn, leads to this world of the definitions
pub record IsRunTo (s : Settings) (t : Timing) (times : Lease) (d : ArbiterWorld) : Type 0 where
  pub events : List ArbiterEvent
  pub allowed : AllAllowedBeside s t times events
  pub leads : d ≡ run_beside s t times events

-- The world stands for a world of the definitions that allowed events lead to; and the nodes can meet as many events as the
-- world has left.
pub record ArbiterFor (w : Whole) (d : ArbiterWorld) : Type 0 where
  pub seen : w ≡ whole_of w.kept
  pub stands : KeptFor w.kept d
  pub room : w.kept.steps ≤ w.kept.world.steps
  pub reached : IsRunTo w.settings w.timing w.lease d

-- the world stands for one that allowed events lead to
abbrev pub IsReached : Whole → Type 0
IsReached w = (d : ArbiterWorld) × ArbiterFor w d

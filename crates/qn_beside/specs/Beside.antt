-- Running nodes that share one outside, beside a running arbiter: what may happen, call by call and byte by byte. This project's profile.
use Rattle.std.specs.Prelude.{◌≡◌, ℕ, Bool, true, false, ◌+◌, List, [], ◌∷◌, ◌++◌, Option, None, Some, is_some, Contains}
use Rattle.std.specs.Option.{option_map, option_map_or}
use Rattle.qn_base.specs.declared.calls.Call.{Call}
use Rattle.qn_base.specs.declared.calls.Call.TheVariants as call
use Rattle.qn_base.specs.declared.calls.Received.{Received}
use Rattle.qn_base.specs.declared.calls.Received.TheVariants as received
use Rattle.qn_base.specs.declared.ids.Rank.{Rank}
use Rattle.qn_base.specs.Calls.{blank}
use Rattle.qn_io.specs.Answered.{received_in}
use Rattle.qn_model.specs.declared.configuration.Settings.{Settings}
use Rattle.qn_model.specs.declared.times.Timing.{Timing}
use Rattle.qn_model.specs.Moments.{tick_of}
use Rattle.qn_model.specs.Rules.{is_within_bounds}
use Rattle.qn_polls.specs.Polls.{is_poll}
use Rattle.qn_polls.specs.Reading.{poll_of, reply_of}
use Rattle.qn_safety.specs.declared.polls.Poll.{Poll}
use Rattle.qn_joined.specs.Joints.{Happening, Passes, Begins, Looks, Lands, Returns, Feeds, LandsLate, Ends, Operates, Joint, MayHappen, first_joint, happens, sent_by}
use Rattle.qn_joined.specs.Stands.{Spot, Receiving, Looking, Acting, Polling, Saying, Parting, Ended}
use Rattle.qn_live.specs.Polling.{arbiter_seat}
use Rattle.qn_safety.specs.declared.lease.Lease.{Lease}
use Rattle.qn_leases.specs.Points.{Point, Starting, after_made, asked_at}

-- the host of the arbiter while its process runs: its clock, in hundredths of a millisecond, and where it stands
pub record ArbiterHost : Type 0 where
  pub clock : ℕ
  pub point : Point

-- all nodes with what they share, the arbiter where it runs, and each packet that an arbiter ever sent, with its receiver
pub record Beside : Type 0 where
  pub joint : Joint
  pub arbiter : Option ArbiterHost
  pub replied : List (ℕ × List ℕ)

-- what happens at one moment
pub data BesideHappening : Type 0 where
  -- this happens to the nodes and their image
  Here : Happening → BesideHappening
  -- time passes while an arbiter runs, whose clock advances so far
  PassesWith : ℕ → List (Rank × ℕ) → ℕ → BesideHappening
  -- the process of an arbiter begins, with its port open, at this base of its clock
  ArbiterBegins : ℕ → BesideHappening
  -- the call that the arbiter waits for returns, with its answer
  ArbiterReturns : Call → BesideHappening
  -- the process of the arbiter ends
  ArbiterEnds : BesideHappening

-- time passes at a happening
abbrev pub is_passing : Happening → Bool
is_passing (Passes dt clocks) = true
is_passing (Begins rank clean leave polls turns) = false
is_passing (Looks rank base) = false
is_passing (Lands rank) = false
is_passing (Returns rank made) = false
is_passing (Feeds rank) = false
is_passing (LandsLate rank number) = false
is_passing (Ends rank) = false
is_passing (Operates rank sent) = false

-- each node polls the arbiter, and takes its replies within this limit
abbrev pub PollsWithin : ℕ → Happening → Type 0
PollsWithin limit (Begins rank clean leave polls turns) = polls ≡ Some limit
PollsWithin limit (Passes dt clocks) = Unit {0}
PollsWithin limit (Looks rank base) = Unit {0}
PollsWithin limit (Lands rank) = Unit {0}
PollsWithin limit (Returns rank made) = Unit {0}
PollsWithin limit (Feeds rank) = Unit {0}
PollsWithin limit (LandsLate rank number) = Unit {0}
PollsWithin limit (Ends rank) = Unit {0}
PollsWithin limit (Operates rank sent) = Unit {0}

-- the poll that is sent where a run stands, if one is
abbrev pub poll_said : Spot → Option Poll
poll_said (Polling poll sents st) = Some poll
poll_said (Receiving st) = None
poll_said (Looking chosen) = None
poll_said (Acting entry outs o rest st) = None
poll_said (Saying sent rest st) = None
poll_said (Parting end sent rest st) = None
poll_said (Ended ran) = None

-- a reply that a node receives was sent to it by an arbiter of this cluster
abbrev pub MayHearReply : ℕ → Received → List (ℕ × List ℕ) → Type 0
MayHearReply rank (received.Packet bytes) replied = is_some (reply_of bytes) ≡ true → Contains replied (rank, bytes)
MayHearReply rank received.Nothing replied = Unit {0}
MayHearReply rank received.Failed replied = Unit {0}

-- A call of a node may return: a reply that it receives was sent to it, and a poll is sent only while its numbers fit their bytes.
pub record MayReturnBeside (rank : ℕ) (made : Call) (b : Beside) : Type 0 where
  pub hears : MayHearReply rank (received_in made) b.replied
  pub spells : option_map_or is_poll (poll_said (b.joint.hosts rank).stand.spot) true ≡ true

abbrev pub MayHear : Happening → Beside → Type 0
MayHear (Returns rank made) b = MayReturnBeside rank made b
MayHear (Passes dt clocks) b = Unit {0}
MayHear (Begins rank clean leave polls turns) b = Unit {0}
MayHear (Looks rank base) b = Unit {0}
MayHear (Lands rank) b = Unit {0}
MayHear (Feeds rank) b = Unit {0}
MayHear (LandsLate rank number) b = Unit {0}
MayHear (Ends rank) b = Unit {0}
MayHear (Operates rank sent) b = Unit {0}

-- a poll that an arbiter receives was sent to it by a node of this cluster
abbrev pub MayHearPoll : Received → List (ℕ × List ℕ) → Type 0
MayHearPoll (received.Packet bytes) sent = is_some (poll_of bytes) ≡ true → Contains sent (arbiter_seat, bytes)
MayHearPoll received.Nothing sent = Unit {0}
MayHearPoll received.Failed sent = Unit {0}

-- the arbiter's clock tells its time; its sends may fail
abbrev pub MayAnswerArbiter : ArbiterHost → List (ℕ × List ℕ) → Call → Type 0
MayAnswerArbiter host sent (call.Now tick) = tick ≡ tick_of host.clock
MayAnswerArbiter host sent (call.Receive got) = MayHearPoll got sent
MayAnswerArbiter host sent other = Unit {0}

abbrev pub MayReturnArbiter : Option ArbiterHost → Call → List (ℕ × List ℕ) → Type 0
MayReturnArbiter None made sent = ⊥
MayReturnArbiter (Some host) made sent = (asked_at host.point ≡ Some (blank made)) × MayAnswerArbiter host sent made

-- What may happen. One arbiter runs at a time, and one begins only where the one before has ended; its clock keeps its bounds.
abbrev pub MayHappenBeside : Settings → Timing → Lease → BesideHappening → Beside → Type 0
MayHappenBeside s t times (Here one) b =
    MayHappen s t one b.joint × PollsWithin times.limit one × MayHear one b × (is_passing one ≡ true → b.arbiter ≡ None)
MayHappenBeside s t times (PassesWith dt clocks advance) b =
    MayHappen s t (Passes dt clocks) b.joint × (is_some b.arbiter ≡ true) × (is_within_bounds dt advance ≡ true)
MayHappenBeside s t times (ArbiterBegins base) b = b.arbiter ≡ None
MayHappenBeside s t times (ArbiterReturns made) b = MayReturnArbiter b.arbiter made b.joint.sent
MayHappenBeside s t times ArbiterEnds b = is_some b.arbiter ≡ true

abbrev pub arbiter_moved : ℕ → Call → ArbiterHost → ArbiterHost
arbiter_moved lease made host = record host { point = after_made lease host.point made }

unfoldable pub happens_beside : Settings → Lease → BesideHappening → Beside → Beside
happens_beside s times (Here one) b = record b { joint = happens s one b.joint }
happens_beside s times (PassesWith dt clocks advance) b =
    record b {
      joint = happens s (Passes dt clocks) b.joint;
      arbiter = option_map {T = ArbiterHost} (λ host. record host { clock = host.clock + advance }) b.arbiter;
    }
happens_beside s times (ArbiterBegins base) b = record b { arbiter = Some (record { clock = base; point = Starting }) }
happens_beside s times (ArbiterReturns made) b =
    record b { arbiter = option_map (arbiter_moved times.lease made) b.arbiter; replied = b.replied ++ sent_by made }
happens_beside s times ArbiterEnds b = record b { arbiter = None }

abbrev pub first_beside : (ℕ → List ℕ) → Beside
first_beside image = record { joint = first_joint image; arbiter = None; replied = [] }

-- after happenings, of which the newest stands first
unfoldable pub beside_after : Settings → Lease → (ℕ → List ℕ) → List BesideHappening → Beside
beside_after s times image [] = first_beside image
beside_after s times image (newest ∷ earlier) = happens_beside s times newest (beside_after s times image earlier)

-- each of the happenings may happen in its turn
unfoldable pub AllMayHappenBeside : Settings → Timing → Lease → (ℕ → List ℕ) → List BesideHappening → Type 0
AllMayHappenBeside s t times image [] = Unit {0}
AllMayHappenBeside s t times image (newest ∷ earlier) =
    MayHappenBeside s t times newest (beside_after s times image earlier) × AllMayHappenBeside s t times image earlier

-- what happens to the nodes at a happening
abbrev pub of_nodes : BesideHappening → List Happening
of_nodes (Here one) = one ∷ []
of_nodes (PassesWith dt clocks advance) = Passes dt clocks ∷ []
of_nodes (ArbiterBegins base) = []
of_nodes (ArbiterReturns made) = []
of_nodes ArbiterEnds = []

-- what happened to the nodes, newest first
unfoldable pub all_of_nodes : List BesideHappening → List Happening
all_of_nodes [] = []
all_of_nodes (newest ∷ earlier) = of_nodes newest ++ all_of_nodes earlier

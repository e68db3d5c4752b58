-- A timed run of the cluster: moments that obey the rules of time, of packets and of feeds, and four facts that the
-- shared disk gives. Nothing else is said of the disk, so that a disk of another kind needs only these facts. Its numbers
-- may be of any size, and a view need not hold its node: such a view fits no node. This project's profile, after sbd(8).
use Rattle.std.specs.Prelude.{◌≡◌, ◌<◌, ◌≤◌, ◌+◌, ℕ, true, false, List, [], ◌∷◌, length, Some, slice_get}
use Rattle.qn_model.specs.declared.configuration.Settings.{Settings}
use Rattle.qn_model.specs.declared.times.Timing.{Timing}
use Rattle.qn_model.specs.declared.packets.Packet.{Packet}
use Rattle.qn_model.specs.declared.packets.Packet.TheVariants as packet
use Rattle.qn_model.specs.declared.packets.Sent.{Sent}
use Rattle.qn_model.specs.declared.entries.What.{What}
use Rattle.qn_model.specs.declared.entries.What.TheVariants as what
use Rattle.qn_model.specs.Log.{Line, incarnation, times_of}
use Rattle.qn_model.specs.Phases.{phase, is_booting, message_of}
use Rattle.qn_model.specs.Licences.{reads_slot, writes_reset, is_clean_slot}
use Rattle.qn_model.specs.NodeOutputs.{feeds_on}
use Rattle.qn_model.specs.Moments.{Moment, Passes, Boots, Adds, Feeds, Ends, Before, node, time, packets, advance_of}
use Rattle.qn_model.specs.Rules.{passes}
use Rattle.qn_safety.specs.Closing.{asked_close}

-- the node of a rank is up: it is running, and its boot has ended
pub record IsUp (s : Settings) (rank : ℕ) (moments : List Moment) : Type 0 where
  pub on : (node s rank moments).on ≡ true
  pub booted : is_booting (phase s (node s rank moments).log) ≡ false

-- two moments of one incarnation of a rank
abbrev pub IsSameBoot : Settings → ℕ → List Moment → List Moment → Type 0
IsSameBoot s rank first second = (node s rank first).boots ≡ (node s rank second).boots

-- a packet was sent to a rank
pub record IsSentTo (s : Settings) (rank : ℕ) (packet : Packet) (moments : List Moment) : Type 0 where
  pub number : ℕ
  pub sent : Sent
  pub there : slice_get (packets s moments) number ≡ Some sent
  pub receiver : sent.to.0 ≡ rank
  pub content : sent.packet ≡ packet

-- an entry that comes from another node was sent to this one
abbrev pub WasSent : Settings → ℕ → What → List Moment → Type 0
WasSent s rank (what.Ask ask) earlier = IsSentTo s rank (packet.Ask ask) earlier
WasSent s rank (what.Tell tell) earlier = IsSentTo s rank (packet.Tell tell) earlier
WasSent s rank entry earlier = Unit {0}

-- a feed takes effect at most the feed delay after it was decided
pub record MayFeed (s : Settings) (t : Timing) (rank : ℕ) (earlier : List Moment) : Type 0 where
  pub on : (node s rank earlier).on ≡ true
  pub at : ℕ
  pub decided : (node s rank earlier).decided ≡ Some at
  pub in_time : time earlier ≤ at + t.feed_delay

-- A moment obeys the rules after the earlier ones. Clocks keep their bounds and no running node outlives its watchdog;
-- only a configured node that is off boots; what is added, fed or ended is running; packets come from nodes.
abbrev pub IsRuled : Settings → Timing → Moment → List Moment → Type 0
IsRuled s t (Passes dt clocks) earlier =
    (rank : ℕ) → rank < length s.nodes → passes t dt (advance_of dt clocks rank) (time earlier) (node s rank earlier) ≡ true
IsRuled s t (Boots rank base clean) earlier = ((node s rank earlier).on ≡ false) × (rank < length s.nodes)
IsRuled s t (Adds rank entry) earlier = ((node s rank earlier).on ≡ true) × WasSent s rank entry earlier
IsRuled s t (Feeds rank) earlier = MayFeed s t rank earlier
IsRuled s t (Ends rank) earlier = (node s rank earlier).on ≡ true

-- every moment obeys the rules
pub data AllRuled (s : Settings) (t : Timing) : List Moment → Type 0 where
  NoMoment : AllRuled s t []
  OneRuled : {moment : Moment} {earlier : List Moment} → IsRuled s t moment earlier → AllRuled s t earlier → AllRuled s t (moment ∷ earlier)

-- an entry was added to the log of a rank right after `before`, and gave this line
pub record IsAdded (s : Settings) (rank : ℕ) (line : Line) (past : List Line) (before moments : List Moment) : Type 0 where
  pub entry : What
  pub back : Before (Adds rank entry ∷ before) moments
  pub gave : (node s rank (Adds rank entry ∷ before)).log ≡ line ∷ past

-- A moment between the entry that asked for an answer and the answer, of the incarnation that was answered: `line` is
-- the answer, which was added right after `before`.
pub record IsBetween (s : Settings) (rank : ℕ) (line : Line) (before between : List Moment) : Type 0 where
  pub back : Before between before
  pub same : IsSameBoot s rank between before
  pub on : (node s rank between).on ≡ true
  pub since : line.asked ≤ length (node s rank between).log

-- the incarnation of a rank that is up, if one is, has asked for its close
abbrev pub HasClosed : Settings → ℕ → List Moment → Type 0
HasClosed s rank moments = IsUp s rank moments → asked_close (node s rank moments).log ≡ true

-- The incarnation of a rank that is up at a moment, if one is, gets bad mail: each read of its mailbox that it asks for
-- after that moment gives a deadly message, or fails, or finds the mailbox damaged.
abbrev pub GetsBadMail : Settings → ℕ → List Moment → List Moment → Type 0
GetsBadMail s rank since moments =
    IsUp s rank since
    → (line : Line) (past : List Line) (before : List Moment)
    → IsAdded s rank line past before moments
    → Before since before
    → IsSameBoot s rank since before
    → length (node s rank since).log < line.asked
    → feeds_on (message_of line.what) ≡ false

-- The four facts of the disk. The numbers of the incarnations of one rank that come up rise strictly.
abbrev pub NumbersRise : Settings → List Moment → Type 0
NumbersRise s moments =
    (rank first_number second_number : ℕ) (first second : List Moment)
    → Before first moments
    → Before second moments
    → IsUp s rank first
    → IsUp s rank second
    → (node s rank first).boots < (node s rank second).boots
    → incarnation (node s rank first).log ≡ Some first_number
    → incarnation (node s rank second).log ≡ Some second_number
    → first_number < second_number

-- where a read of a slot gives a clean one, at some moment of the read no incarnation was up that had not asked for its
-- close
abbrev pub CleanMeansClosed : Settings → List Moment → Type 0
CleanMeansClosed s moments =
    (rank other : ℕ) (line : Line) (past : List Line) (before : List Moment)
    → IsAdded s rank line past before moments
    → reads_slot is_clean_slot other line.what ≡ true
    → (between : List Moment) × IsBetween s rank line before between × HasClosed s other between

-- where a reset is written, the incarnation that was up at some moment of the write gets bad mail from then on
abbrev pub WrittenMeansBadMail : Settings → List Moment → Type 0
WrittenMeansBadMail s moments =
    (rank other : ℕ) (line : Line) (past : List Line) (before : List Moment)
    → IsAdded s rank line past before moments
    → writes_reset other line.what ≡ true
    → (between : List Moment) × IsBetween s rank line before between × GetsBadMail s other between moments

-- every header that is read gives the one timing of the run
abbrev pub HeadersAgree : Settings → Timing → List Moment → Type 0
HeadersAgree s t moments =
    (rank : ℕ) (line : Line) (past : List Line) (before : List Moment) (times : Timing)
    → IsAdded s rank line past before moments
    → times_of line.what ≡ Some times
    → times ≡ t

-- a timed run
pub record IsTimedRun (s : Settings) (t : Timing) (moments : List Moment) : Type 0 where
  pub ruled : AllRuled s t moments
  pub rise : NumbersRise s moments
  pub clean : CleanMeansClosed s moments
  pub written : WrittenMeansBadMail s moments
  pub headers : HeadersAgree s t moments

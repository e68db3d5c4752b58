-- What the two lemmas under the safety theorem say of a timed run: of a node to which a reset was written, and of a node
-- that answered. This project's profile, after sbd(8).
use Rattle.std.specs.Prelude.{◌≡◌, ◌≤◌, ◌+◌, ℕ, true, false, List, ◌∷◌, Contains}
use Rattle.qn_base.specs.declared.ids.Rank.{Rank}
use Rattle.qn_model.specs.declared.configuration.Settings.{Settings}
use Rattle.qn_model.specs.declared.times.Timing.{Timing}
use Rattle.qn_model.specs.declared.outputs.Out.TheVariants as out
use Rattle.qn_model.specs.declared.packets.Packet.{Packet}
use Rattle.qn_model.specs.declared.packets.Packet.TheVariants as packet
use Rattle.qn_model.specs.declared.packets.Tell.{Tell}
use Rattle.qn_model.specs.Log.{Line, has_start}
use Rattle.qn_model.specs.NodeVotes.{install, is_present}
use Rattle.qn_model.specs.Moments.{Moment, Adds, Before, is_holder, node, tick_of}
use Rattle.qn_safety.specs.Timed.{IsAdded, IsSameBoot, IsUp}

-- the incarnation of a rank that was up at a moment, if one was, is not running at a later one
abbrev pub HasEnded : Settings → ℕ → List Moment → List Moment → Type 0
HasEnded s rank since now = IsUp s rank since → IsSameBoot s rank since now → (node s rank now).on ≡ false

-- a node that read an answer, the line, right after `before` still runs in that boot, and msgwait has passed since
pub record HasWaited (s : Settings) (t : Timing) (rank : ℕ) (line : Line) (before now : List Moment) : Type 0 where
  pub since : Before before now
  pub same : IsSameBoot s rank before now
  pub on : (node s rank now).on ≡ true
  pub waited : line.tick + t.msgwait ≤ tick_of (node s rank now).clock

-- what a rank holds it started after a moment: the line gave the Start, and the rank held ever since
pub record HasStartedAfter (s : Settings) (rank : ℕ) (since now : List Moment) : Type 0 where
  pub line : Line
  pub past : List Line
  pub before : List Moment
  pub added : IsAdded s rank line past before now
  pub after : Before since before
  pub starts : has_start line.outs ≡ true
  pub held : (mid : List Moment) → Before (Adds rank added.entry ∷ before) mid → Before mid now → is_holder s mid rank ≡ true

-- the newest entry of a rank gave out this packet to another rank, among its outputs
pub record HasJustSent (s : Settings) (rank receiver : ℕ) (packet : Packet) (moments : List Moment) : Type 0 where
  pub line : Line
  pub past : List Line
  pub newest : (node s rank moments).log ≡ line ∷ past
  pub to : Rank
  pub receives : to.0 ≡ receiver
  pub sends : Contains line.outs (out.Send to packet)

-- What a Tell that answers its reader says of its sender; `before` is right before the reader reads it.
pub record TellSays (s : Settings) (reader : ℕ) (tell : Tell) (before moments : List Moment) : Type 0 where
  -- it was sent at this moment, among what came out of the sender's newest entry, when the sender's present view was that of
  -- the Tell
  pub sent : List Moment
  pub back : Before sent before
  pub comes_out : HasJustSent s tell.from.0 reader (packet.Tell tell) sent
  pub shows : is_present (node s tell.from.0 sent).log tell.view ≡ true
  -- the reader's last View was installed still earlier, in the same boot: it has installed none since
  pub installed : List Moment
  pub earlier : Before installed sent
  pub same : IsSameBoot s reader installed before
  pub no_view : install (node s reader installed).log ≡ install (node s reader before).log
  -- where it says not holding, what the sender holds later it started after the Tell
  pub starts_later : tell.holds ≡ false → (now : List Moment) → Before sent now → Before now moments → is_holder s now tell.from.0 ≡ true
      → HasStartedAfter s tell.from.0 sent now

-- Who is heard in a quiet world: this project's profile.
use Rattle.std.specs.Prelude.{◌≡◌, ◌≤◌, ◌<◌, ◌+◌, ℕ, true, List, ◌∷◌, Some, length, Contains}
use Rattle.qn_base.specs.declared.ids.View.{View}
use Rattle.qn_base.specs.Members.{is_member}
use Rattle.qn_model.specs.declared.configuration.Settings.{Settings}
use Rattle.qn_model.specs.declared.times.Timing.{Timing}
use Rattle.qn_model.specs.declared.entries.What.{What}
use Rattle.qn_model.specs.declared.life.Phase.TheVariants.{Up}
use Rattle.qn_model.specs.declared.outputs.Out.TheVariants as out
use Rattle.qn_model.specs.declared.packets.Packet.{Packet}
use Rattle.qn_model.specs.Log.{incarnation}
use Rattle.qn_model.specs.Moments.{Adds, Before, Moment, is_holder, node, tick_of}
use Rattle.qn_model.specs.NodeOutputs.{moment, newest_outs}
use Rattle.qn_model.specs.NodeVotes.{install, is_in_view, view}
use Rattle.qn_model.specs.Phases.{phase}
use Rattle.qn_model.specs.Steps.{entry_of}
use Rattle.qn_model.specs.Wanted.{rank_of}
use Rattle.qn_progress.specs.Pace.{Pace}
use Rattle.qn_progress.specs.Quiet.{DelaysOver, QuietSince}

-- A rank at one moment: it runs, and is up under that view.
pub record IsUnder (s : Settings) (rank : ℕ) (present : View) (moments : List Moment) : Type 0 where
  pub on : (node s rank moments).on ≡ true
  pub up : phase s (node s rank moments).log ≡ Up
  pub sees : view (node s rank moments).log ≡ Some present

-- A packet was handed to a rank between two moments, by a tick of the clock of the node that waits.
pub record IsDelivered (s : Settings) (rank to : ℕ) (packet : Packet) (limit : ℕ) (since new : List Moment) : Type 0 where
  pub at : List Moment
  pub after : Before since at
  pub back : Before (Adds to (entry_of packet) ∷ at) new
  pub soon : tick_of (node s rank at).clock ≤ limit

-- Each packet that one rank sends another between two moments is handed to it within so many ticks of the clock of the node that waits, where these
-- pass before the new moment.
abbrev pub Delivers : Settings → ℕ → ℕ → ℕ → ℕ → List Moment → List Moment → Type 0
Delivers s rank post from to old new =
    (entry : What) (before : List Moment) (packet : Packet)
    → Before old before → Before (Adds from entry ∷ before) new
    → Contains (newest_outs (node s from (Adds from entry ∷ before)).log) (out.Send (rank_of to) packet)
    → tick_of (node s rank before).clock + post < tick_of (node s rank new).clock
    → IsDelivered s rank to packet (tick_of (node s rank before).clock + post) (Adds from entry ∷ before) new

-- The world is quiet for a loop, a turn and the ways of two packets, as the node sees it; meanwhile the other rank is up under the view of the node,
-- and packets between them arrive.
pub record HearsQuietly (s : Settings) (t : Timing) (rank : ℕ) (pace : Pace) (post : ℕ) (present : View) (other : ℕ) (old new : List Moment) : Type 0 where
  pub fast : pace.disk < t.loop_ms
  pub since : QuietSince s rank pace (install (node s rank old).log) old new
  pub over : DelaysOver s (tick_of (node s rank old).clock) (node s rank old).log
  pub late : tick_of (node s rank old).clock + t.loop_ms + pace.turn + post + post < tick_of (node s rank new).clock
  -- its view has both of them, and it has asked under it before, in an incarnation that it knows
  pub sees : view (node s rank old).log ≡ Some present
  pub has_both : (is_member present.members rank ≡ true) × (is_member present.members other ≡ true)
  pub configured : (rank < length s.nodes) × (other < length s.nodes)
  pub apart : ¬ (other ≡ rank)
  pub asked : (last : ℕ) × (moment s (node s rank old).log ≡ Some last)
  pub claims : (number : ℕ) × (incarnation (node s rank old).log ≡ Some number)
  -- the other one, and the packets
  pub under : (mid : List Moment) → Before old mid → Before mid new → IsUnder s other present mid
  pub asks_come : Delivers s rank post rank other old new
  pub tells_come : Delivers s rank post other rank old new

-- The rank held at some moment between the two.
pub record HasHeld (s : Settings) (rank : ℕ) (old new : List Moment) : Type 0 where
  pub at : List Moment
  pub after : Before old at
  pub back : Before at new
  pub holds : is_holder s at rank ≡ true

-- The world is quiet from an old moment to a new one, as the chosen member of a view sees it, and by a moment between the two each other member had
-- time to be heard.
pub record StaysHeard (s : Settings) (t : Timing) (rank : ℕ) (pace : Pace) (post : ℕ) (present : View) (old mid new : List Moment) : Type 0 where
  pub fast : pace.disk < t.loop_ms
  pub first : QuietSince s rank pace (install (node s rank old).log) old mid
  pub since : QuietSince s rank pace (install (node s rank old).log) mid new
  pub over : DelaysOver s (tick_of (node s rank old).clock) (node s rank old).log
  pub hears : (other : ℕ) → other < length s.nodes → is_in_view (node s rank old).log other ≡ true → ¬ (other ≡ rank)
      → HearsQuietly s t rank pace post present other old mid

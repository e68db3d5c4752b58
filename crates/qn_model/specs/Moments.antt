-- A run of the cluster in true time, as a list of moments, and what each node is after it: this project's
-- profile. Each list of moments stands newest first.
use Rattle.std.specs.Prelude.{ℕ, suc, Bool, true, false, List, [], ◌∷◌, ◌++◌, Option, None, Some, ◌+◌, ◌*◌, ◌/◌, ◌==◌, ◌&&◌, not, if◌then◌else◌}
use Rattle.qn_base.specs.declared.ids.Rank.{Rank}
use Rattle.qn_model.specs.declared.configuration.Settings.{Settings}
use Rattle.qn_model.specs.declared.packets.Sent.{Sent}
use Rattle.qn_model.specs.declared.entries.What.{What}
use Rattle.qn_model.specs.declared.entries.What.TheVariants as what
use Rattle.qn_model.specs.declared.life.Phase.{Phase}
use Rattle.qn_model.specs.declared.life.Phase.TheVariants.{Gone}
use Rattle.qn_model.specs.declared.outputs.Out.{Out}
use Rattle.qn_model.specs.declared.outputs.Out.TheVariants as out
use Rattle.qn_model.specs.Log.{Line}
use Rattle.qn_model.specs.Phases.{phase}
use Rattle.qn_model.specs.Holding.{holds}
use Rattle.qn_model.specs.NodeOutputs.{with_entry, newest_outs}

-- What happens at one moment. Time in true milliseconds, clocks in hundredths of a millisecond.
pub data Moment : Type 0 where
  -- so many milliseconds pass, and these clocks advance so far
  Passes : ℕ → List (Rank × ℕ) → Moment
  -- a rank boots, its clock stands at this base, and it is a clean start or not
  Boots : ℕ → ℕ → Bool → Moment
  -- an entry is added to the history of a rank
  Adds : ℕ → What → Moment
  -- a feed of a rank takes effect
  Feeds : ℕ → Moment
  -- a rank ends: it is off
  Ends : ℕ → Moment

-- One node, running or off. `boots` counts its boots and so names the present one; the log is that of this
-- boot; `fed` is the true time of the last feed or boot, `decided` that of the last feed that the node gave
-- out in this boot.
pub record Running : Type 0 where
  pub on : Bool
  pub boots : ℕ
  pub log : List Line
  pub clock : ℕ
  pub fed : ℕ
  pub decided : Option ℕ

-- a node before its first boot
abbrev pub never_booted : Running
never_booted = record { on = false; boots = 0; log = []; clock = 0; fed = 0; decided = None }

-- the tick of a clock, in whole milliseconds
abbrev pub tick_of : ℕ → ℕ
tick_of clock = clock / 100

abbrev pub is_gone : Phase → Bool
is_gone Gone = true
is_gone phase = false

abbrev pub has_feed : List Out → Bool
has_feed [] = false
has_feed (out.Feed ∷ outs) = true
has_feed (other ∷ outs) = has_feed outs

-- a clock advances by what is named for its rank, and else by 100 a millisecond
abbrev pub advance_of : ℕ → List (Rank × ℕ) → ℕ → ℕ
advance_of dt [] rank = 100 * dt
advance_of dt (clock ∷ clocks) rank = if clock.0.0 == rank then clock.1 else advance_of dt clocks rank

-- a node whose clock advances; that of a node that is off stands still
abbrev pub advanced : ℕ → Running → Running
advanced advance node = record node { clock = (if node.on then node.clock + advance else node.clock) }

-- a node with this log, of which the newest entry was added at a true time: it is off where it is gone, and a feed
-- that came out is decided
unfoldable pub logged : Settings → ℕ → List Line → Running → Running
logged s time log node =
    record node { on = not (is_gone (phase s log)); log = log; decided = (if has_feed (newest_outs log) then Some time else node.decided) }

-- a node that was handed an entry at the present tick of its clock
unfoldable pub handed : Settings → ℕ → ℕ → What → Running → Running
handed s rank time entry node = logged s time (with_entry s rank node.log (record { tick = tick_of node.clock; what = entry })) node

-- the entry that begins a boot, by whether it is a clean start
abbrev pub begin_of : Bool → What
begin_of false = what.Begin
begin_of true = what.BeginClean

-- a node that boots: a new log, which begins with the entry that begins the boot
unfoldable pub booted : Settings → ℕ → ℕ → ℕ → Bool → Running → Running
booted s rank time base clean node =
    handed s rank time (begin_of clean) (record { on = true; boots = suc node.boots; log = []; clock = base; fed = time; decided = None })

-- the true time after the moments
unfoldable pub time : List Moment → ℕ
time [] = 0
time (Passes dt clocks ∷ earlier) = time earlier + dt
time (Boots rank base clean ∷ earlier) = time earlier
time (Adds rank entry ∷ earlier) = time earlier
time (Feeds rank ∷ earlier) = time earlier
time (Ends rank ∷ earlier) = time earlier

-- the node of a rank after the moments
unfoldable pub node : Settings → ℕ → List Moment → Running
node s rank [] = never_booted
node s rank (Passes dt clocks ∷ earlier) = advanced (advance_of dt clocks rank) (node s rank earlier)
node s rank (Boots other base clean ∷ earlier) =
    if other == rank then booted s rank (time earlier) base clean (node s rank earlier) else node s rank earlier
node s rank (Adds other entry ∷ earlier) =
    if other == rank then handed s rank (time earlier) entry (node s rank earlier) else node s rank earlier
node s rank (Feeds other ∷ earlier) =
    if other == rank then record (node s rank earlier) { fed = time earlier } else node s rank earlier
node s rank (Ends other ∷ earlier) =
    if other == rank then record (node s rank earlier) { on = false } else node s rank earlier

-- what came out of the newest moment
unfoldable pub given_out : Settings → List Moment → List Out
given_out s (Boots rank base clean ∷ earlier) = newest_outs (node s rank (Boots rank base clean ∷ earlier)).log
given_out s (Adds rank entry ∷ earlier) = newest_outs (node s rank (Adds rank entry ∷ earlier)).log
given_out s moments = []

-- the packets among the outputs, in order
abbrev pub packets_of : List Out → List Sent
packets_of [] = []
packets_of (out.Send to packet ∷ outs) = record { to = to; packet = packet } ∷ packets_of outs
packets_of (other ∷ outs) = packets_of outs

-- the packets ever sent, in order: the number of a packet is its place, from 0
unfoldable pub packets : Settings → List Moment → List Sent
packets s [] = []
packets s (moment ∷ earlier) = packets s earlier ++ packets_of (given_out s (moment ∷ earlier))

-- whether the node of a rank holds the resource: it is running, and holds by its log
abbrev pub is_holder : Settings → List Moment → ℕ → Bool
is_holder s moments rank = (node s rank moments).on && holds (node s rank moments).log

-- an earlier state of a list that only grows at its head
pub data Before {A : Type 0} (old : List A) : List A → Type 0 where
  Itself : Before old old
  Later : (newest : A) {new : List A} → Before old new → Before old (newest ∷ new)

-- A quiet world, as one node sees it. Everything is said of the moments, and so of the runs of every world that has them:
-- one image, three images, beside an arbiter. This project's profile.
use Rattle.std.specs.Prelude.{false, ◌≡◌, ◌≤◌, ◌<◌, ◌+◌, ◌*◌, not, ℕ, Bool, true, List, [], ◌∷◌, length, None}
use Rattle.qn_model.specs.declared.configuration.Settings.{Settings}
use Rattle.qn_model.specs.declared.times.Timing.{Timing}
use Rattle.qn_model.specs.declared.entries.What.{What}
use Rattle.qn_model.specs.declared.entries.What.TheVariants as what
use Rattle.qn_model.specs.Log.{Line, op_out, ask_tick, now}
use Rattle.qn_model.specs.Licences.{is_seen_slot}
use Rattle.qn_model.specs.Hearing.{is_free}
use Rattle.qn_model.specs.NodeVotes.{install, released, quorate_with_tie, is_in_view, votes}
use Rattle.qn_model.specs.Votes.{view_tick}
use Rattle.qn_model.specs.Phases.{phase}
use Rattle.qn_model.specs.declared.life.Phase.TheVariants.{Up}
use Rattle.qn_model.specs.Unmet.{is_chosen}
use Rattle.qn_model.specs.Wanted.{fence_delay}
use Rattle.qn_model.specs.Moments.{Moment, node, tick_of, time}
use Rattle.qn_progress.specs.Pace.{Pace, outside, take_over_ticks}

-- the last entry of a log
abbrev pub newest : List Line → What
newest [] = what.Tick
newest (line ∷ past) = line.what

-- no read of a slot and no write of a reset failed, and no stop succeeded
abbrev pub is_gentle : What → Bool
is_gentle (what.SlotRead rank seen) = is_seen_slot seen
is_gentle (what.MailWritten rank ok) = ok
is_gentle (what.Cleared ok) = true
is_gentle (what.Stopped ok) = not ok
is_gentle what.Begin = true
is_gentle what.BeginClean = true
is_gentle (what.Header seen) = true
is_gentle (what.MailChecked seen) = true
is_gentle (what.Claimed ok) = true
is_gentle (what.MailRead seen) = true
is_gentle (what.View view) = true
is_gentle (what.Ask ask) = true
is_gentle (what.Tell tell) = true
is_gentle (what.Device agrees) = true
is_gentle what.Tick = true
is_gentle what.Leave = true
is_gentle (what.Closed ok) = true

-- The node of a rank at one quiet moment; `views` is how many views it has installed since its boot.
pub record IsQuiet (s : Settings) (rank : ℕ) (pace : Pace) (views : ℕ) (moments : List Moment) : Type 0 where
  -- it runs, it is up, released, quorate, and the chosen member of its view, which stays
  pub on : (node s rank moments).on ≡ true
  pub up : phase s (node s rank moments).log ≡ Up
  pub view : install (node s rank moments).log ≡ views
  pub free : released s (node s rank moments).log ≡ true
  pub quorate : quorate_with_tie s (node s rank moments).log (now (node s rank moments).log) ≡ true
  pub chosen : is_chosen s rank (node s rank moments).log ≡ true
  -- what it was handed last is no failure
  pub gentle : is_gentle (newest (node s rank moments).log) ≡ true
  -- it was handed an entry, and its disk answers, at their pace
  pub turns : tick_of (node s rank moments).clock ≤ now (node s rank moments).log + pace.turn
  pub answers : ¬ (op_out (node s rank moments).log ≡ None)
      → tick_of (node s rank moments).clock ≤ ask_tick (node s rank moments).log + pace.disk

-- each moment from an old one on is quiet
pub data QuietSince (s : Settings) (rank : ℕ) (pace : Pace) (views : ℕ) (old : List Moment) : List Moment → Type 0 where
  FromHere : IsQuiet s rank pace views old → QuietSince s rank pace views old old
  AndThen : {moment : Moment} {earlier : List Moment} → QuietSince s rank pace views old earlier
      → IsQuiet s rank pace views (moment ∷ earlier) → QuietSince s rank pace views old (moment ∷ earlier)

-- each other member of the view said since it came that it does not hold
abbrev pub HasHeardAll : Settings → ℕ → List Line → Type 0
HasHeardAll s rank log =
    (other : ℕ) → other < length s.nodes → is_in_view log other ≡ true → ¬ (other ≡ rank) → is_free log other ≡ true

-- the node is the only member of its view
abbrev pub IsAlone : Settings → ℕ → List Line → Type 0
IsAlone s rank log = (other : ℕ) → other < length s.nodes → is_in_view log other ≡ true → other ≡ rank

-- no fence delay of a node outside the view is left to wait for
abbrev pub DelaysOver : Settings → ℕ → List Line → Type 0
DelaysOver s tick log =
    (other : ℕ) → other < length s.nodes → is_in_view log other ≡ false → view_tick (votes log) + fence_delay s other ≤ tick

-- The world is quiet from an old moment to a new one, as the node of a rank sees it: a call of its disk takes less than a loop, no
-- fence delay is left at the old moment, and by a moment between the two each other member was heard.
pub record StaysQuiet (s : Settings) (t : Timing) (rank : ℕ) (pace : Pace) (old mid new : List Moment) : Type 0 where
  pub fast : pace.disk < t.loop_ms
  pub first : QuietSince s rank pace (install (node s rank old).log) old mid
  pub since : QuietSince s rank pace (install (node s rank old).log) mid new
  pub over : DelaysOver s (tick_of (node s rank old).clock) (node s rank old).log
  pub heard : HasHeardAll s rank (node s rank mid).log

-- By its clock: a take-over's time has passed since the old moment, and a turn since the moment at which all were heard.
pub record HasTakenTicks (s : Settings) (t : Timing) (rank : ℕ) (pace : Pace) (old mid new : List Moment) : Type 0 where
  pub late : tick_of (node s rank old).clock + take_over_ticks t pace (outside s (node s rank old).log) ≤ tick_of (node s rank new).clock
  pub behind : tick_of (node s rank mid).clock + pace.turn < tick_of (node s rank new).clock

-- The same in true milliseconds, of which a clock may miss one in a hundred.
pub record HasTakenTime (s : Settings) (t : Timing) (rank : ℕ) (pace : Pace) (old mid new : List Moment) : Type 0 where
  pub late : 100 * take_over_ticks t pace (outside s (node s rank old).log) + 99 * time old ≤ 99 * time new
  pub behind : 100 * (pace.turn + 1) + 99 * time mid ≤ 99 * time new

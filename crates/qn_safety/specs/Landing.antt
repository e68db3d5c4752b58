-- A reset that lands in the world, and the wait that begins there. This project's profile, after sbd(8).
use Rattle.std.specs.Prelude.{◌≡◌, ◌≤◌, ◌+◌, ℕ, true, List, ◌∷◌, Some}
use Rattle.qn_base.specs.declared.ids.Rank.{Rank}
use Rattle.qn_model.specs.declared.configuration.Settings.{Settings}
use Rattle.qn_model.specs.declared.events.Event.{Event}
use Rattle.qn_model.specs.declared.events.Event.TheVariants as event
use Rattle.qn_model.specs.declared.outputs.DiskOp.TheVariants as disk
use Rattle.qn_model.specs.declared.times.Timing.{Timing}
use Rattle.qn_model.specs.Moments.{Before, Moment, node, tick_of}
use Rattle.qn_model.specs.Steps.{run}
use Rattle.qn_model.specs.World.{op_at}
use Rattle.qn_safety.specs.Timed.{IsSameBoot}

-- the reset of another node, which the writer has out after the earlier events, lands with the next one
pub record LandsReset (s : Settings) (t : Timing) (writer other : Rank) (earlier events : List Event) : Type 0 where
  pub back : Before (event.Land writer ∷ earlier) events
  pub out : op_at s writer.0 (run s t earlier) ≡ Some (disk.WriteReset other)

-- msgwait has passed by the clock of a rank since a moment, in one boot, and the rank is running
pub record HasPassed (s : Settings) (t : Timing) (rank : ℕ) (since now : List Moment) : Type 0 where
  pub same : IsSameBoot s rank since now
  pub on : (node s rank now).on ≡ true
  pub waited : tick_of (node s rank since).clock + t.msgwait ≤ tick_of (node s rank now).clock

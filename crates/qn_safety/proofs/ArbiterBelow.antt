-- The laws of runs without an arbiter, as the lemmas here take them.
use Rattle.std.proofs.Common.{◌≡◌, ℕ, ◌+◌, ◌*◌, ◌≤◌, List, ◌∷◌, Some}
use Rattle.qn_model.specs.declared.configuration.Settings.{Settings}
use Rattle.qn_model.specs.declared.events.Event.{Event}
use Rattle.qn_model.specs.declared.times.Timing.{Timing}
use Rattle.qn_model.specs.Log.{incarnation}
use Rattle.qn_model.specs.Moments.{Before, Moment, node, time}
use Rattle.qn_model.specs.Steps.{run}
use Rattle.qn_model.specs.World.{node_at}
use Rattle.qn_safety.specs.Clocks.{RunsOn, clock}
use Rattle.qn_safety.specs.LogMoves.{LogMove}
use Rattle.qn_safety.specs.Timed.{IsTimedRun, IsUp}
use Rattle.qn_safety.proofs.Events.{IsAllowed}

pub record Below : Type 0 where
  pub timed : (s : Settings) (t : Timing) (events : List Event) → IsAllowed s t events → IsTimedRun s t (run s t events).moments
  pub slow : (s : Settings) (t : Timing) (moments old new : List Moment) (rank : ℕ) → IsTimedRun s t moments → RunsOn s rank old new moments
      → 99 * time new + clock s rank old ≤ clock s rank new + 99 * time old
  pub number : (s : Settings) (t : Timing) (events : List Event) (rank : ℕ) → IsAllowed s t events → IsUp s rank (run s t events).moments
      → incarnation (node_at s rank (run s t events)).log ≡ Some ((run s t events).slots rank).incarnation
  pub time : (old new : List Moment) → Before old new → time old ≤ time new
  pub count : (s : Settings) (rank : ℕ) (old new : List Moment) → Before old new → (node s rank old).boots ≤ (node s rank new).boots
  pub log : (s : Settings) (t : Timing) (rank : ℕ) (old new moments : List Moment) → IsTimedRun s t moments → RunsOn s rank old new moments
      → Before (node s rank old).log (node s rank new).log
  pub stays : (s : Settings) (t : Timing) (rank : ℕ) (old new moments : List Moment) → IsTimedRun s t moments → RunsOn s rank old new moments → IsUp s rank old
      → incarnation (node s rank new).log ≡ incarnation (node s rank old).log
  pub grow : (s : Settings) (t : Timing) (earlier events : List Event) → Before earlier events → Before (run s t earlier).moments (run s t events).moments
  pub move : (s : Settings) (t : Timing) (event : Event) (earlier : List Event) (rank : ℕ) → IsAllowed s t (event ∷ earlier)
      → LogMove s rank event (run s t earlier).moments (run s t (event ∷ earlier)).moments

-- The laws of timed runs, as the lemmas here take them.
use Rattle.std.proofs.Common.{◌≡◌, ℕ, ◌+◌, ◌*◌, ◌≤◌, Bool, true, List}
use Rattle.qn_model.specs.declared.configuration.Settings.{Settings}
use Rattle.qn_model.specs.declared.times.Timing.{Timing}
use Rattle.qn_model.specs.declared.entries.What.TheVariants as what
use Rattle.qn_model.specs.Fitting.{fits}
use Rattle.qn_model.specs.Log.{incarnation, timing}
use Rattle.qn_model.specs.Moments.{Before, Moment, node, time}
use Rattle.qn_model.specs.Phases.{is_booting, phase}
use Rattle.qn_safety.specs.Clocks.{RunsOn, clock}
use Rattle.qn_safety.specs.Timed.{IsTimedRun, IsUp}

pub record Below : Type 0 where
  pub times : (s : Settings) (t : Timing) (rank : ℕ) (moments now : List Moment) → IsTimedRun s t moments → Before now moments → IsUp s rank now
      → timing (node s rank now).log ≡ t
  pub cleared : (s : Settings) (t : Timing) (rank : ℕ) (moments now : List Moment) (ok : Bool) → IsTimedRun s t moments → Before now moments
      → fits s rank (node s rank now).log (what.Cleared ok) ≡ true → is_booting (phase s (node s rank now).log) ≡ true
  pub slow : (s : Settings) (t : Timing) (moments old new : List Moment) (rank : ℕ) → IsTimedRun s t moments → RunsOn s rank old new moments
      → 99 * time new + clock s rank old ≤ clock s rank new + 99 * time old

-- what stays as it is in one boot
pub record Boots : Type 0 where
  pub named : (s : Settings) (t : Timing) (rank : ℕ) (old new moments : List Moment) → IsTimedRun s t moments → RunsOn s rank old new moments
      → IsUp s rank old → incarnation (node s rank new).log ≡ incarnation (node s rank old).log

-- What the clock of a node may do while the node runs: this project's profile.
use Rattle.std.specs.Prelude.{◌≡◌, ℕ, true, List}
use Rattle.qn_model.specs.declared.configuration.Settings.{Settings}
use Rattle.qn_model.specs.Moments.{Before, Moment, node}
use Rattle.qn_safety.specs.Timed.{IsSameBoot}

-- the clock of a rank after the moments, in hundredths of a millisecond
abbrev pub clock : Settings → ℕ → List Moment → ℕ
clock s rank moments = (node s rank moments).clock

-- the node of a rank ran in one boot from an old moment of a run to a new one
pub record RunsOn (s : Settings) (rank : ℕ) (old new moments : List Moment) : Type 0 where
  pub order : Before old new
  pub back : Before new moments
  pub same : IsSameBoot s rank old new
  pub on : (node s rank new).on ≡ true

-- A node that keeps what it holds. This project's profile.
use Rattle.std.specs.Prelude.{◌≡◌, ℕ, true, false, List, [], ◌∷◌}
use Rattle.qn_model.specs.declared.configuration.Settings.{Settings}
use Rattle.qn_model.specs.declared.life.Phase.TheVariants.{Up}
use Rattle.qn_model.specs.Holding.{stop_due}
use Rattle.qn_model.specs.Log.{now}
use Rattle.qn_model.specs.Moments.{Moment, node}
use Rattle.qn_model.specs.NodeVotes.{quorate_with_tie}
use Rattle.qn_model.specs.Phases.{phase}
use Rattle.qn_model.specs.Unmet.{is_given_away}

-- The node of a rank runs, is up, so is not asked to leave, is quorate, and its view neither names another member nor bars all. Of
-- its disk and its pace nothing is said.
pub record MayKeep (s : Settings) (rank : ℕ) (moments : List Moment) : Type 0 where
  pub on : (node s rank moments).on ≡ true
  pub up : phase s (node s rank moments).log ≡ Up
  pub quorate : quorate_with_tie s (node s rank moments).log (now (node s rank moments).log) ≡ true
  pub kept : is_given_away s rank (node s rank moments).log ≡ false

-- each moment from an old one on
pub data MayKeepSince (s : Settings) (rank : ℕ) (old : List Moment) : List Moment → Type 0 where
  FromHere : MayKeep s rank old → MayKeepSince s rank old old
  AndThen : {moment : Moment} {earlier : List Moment} → MayKeepSince s rank old earlier → MayKeep s rank (moment ∷ earlier)
      → MayKeepSince s rank old (moment ∷ earlier)

-- The node of a rank may keep what it holds from an old moment on, at which no Stop of its resource was unanswered.
pub record KeepsOn (s : Settings) (rank : ℕ) (old new : List Moment) : Type 0 where
  pub calm : stop_due (node s rank old).log ≡ false
  pub since : MayKeepSince s rank old new

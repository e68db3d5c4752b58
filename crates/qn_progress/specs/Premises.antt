-- That the premises of the bounded take-over can be met: this project's profile.
use Rattle.std.specs.Prelude.{◌≡◌, ◌<◌, true, ℕ, List, length, IsTrue, IsFalse}
use Rattle.qn_model.specs.declared.configuration.Settings.{Settings}
use Rattle.qn_model.specs.declared.events.Event.{Event}
use Rattle.qn_model.specs.declared.times.Timing.{Timing}
use Rattle.qn_model.specs.Settings.{IsValid}
use Rattle.qn_model.specs.Timing.{is_safe}
use Rattle.qn_base.specs.declared.ids.View.{View}
use Rattle.qn_model.specs.Moments.{Moment, is_holder, node}
use Rattle.qn_model.specs.NodeVotes.{is_in_view}
use Rattle.qn_model.specs.Steps.{AllAllowed, run}
use Rattle.qn_progress.specs.Hearing.{StaysHeard}
use Rattle.qn_progress.specs.Pace.{Pace}
use Rattle.qn_progress.specs.Quiet.{HasTakenTicks, HasTakenTime, StaysQuiet}

-- a run that is quiet for as long as a take-over takes, from a moment on at which nobody holds
pub record TakesOver : Type 0 where
  pub settings : Settings
  pub timing : Timing
  pub pace : Pace
  pub rank : ℕ
  pub events : List Event
  pub old : List Moment
  pub valid : IsValid settings
  pub safe : IsTrue (is_safe timing)
  pub allowed : AllAllowed settings timing events
  pub free : (other : ℕ) → other < length settings.nodes → IsFalse (is_holder settings old other)
  pub quiet : StaysQuiet settings timing rank pace old old (run settings timing events).moments
  pub taken : HasTakenTime settings timing rank pace old old (run settings timing events).moments

-- a run that is quiet, in which the others of a view are heard, for as long as a take-over takes; another member than the node is in
-- the view, and nobody holds at the beginning
pub record HearsAndTakesOver : Type 0 where
  pub settings : Settings
  pub timing : Timing
  pub pace : Pace
  pub rank : ℕ
  pub post : ℕ
  pub present : View
  pub other : ℕ
  pub events : List Event
  pub old : List Moment
  pub mid : List Moment
  pub valid : IsValid settings
  pub safe : IsTrue (is_safe timing)
  pub allowed : AllAllowed settings timing events
  pub free : (holder : ℕ) → holder < length settings.nodes → IsFalse (is_holder settings old holder)
  pub inside : is_in_view (node settings rank old).log other ≡ true
  pub apart : ¬ (other ≡ rank)
  pub quiet : StaysHeard settings timing rank pace post present old mid (run settings timing events).moments
  pub taken : HasTakenTicks settings timing rank pace old mid (run settings timing events).moments

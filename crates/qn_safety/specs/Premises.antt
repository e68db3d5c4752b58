-- The premises of the safety laws are met: a schedule of a valid cluster in which two nodes hold, one after the other.
use Rattle.std.specs.Prelude.{◌≡◌, ℕ, List, IsTrue}
use Rattle.qn_model.specs.declared.configuration.Settings.{Settings}
use Rattle.qn_model.specs.declared.times.Timing.{Timing}
use Rattle.qn_model.specs.declared.events.Event.{Event}
use Rattle.qn_model.specs.Settings.{IsValid}
use Rattle.qn_model.specs.Timing.{is_safe}
use Rattle.qn_model.specs.Moments.{Before, is_holder}
use Rattle.qn_model.specs.Steps.{AllAllowed, run}

-- valid settings, safe timing and events that are each allowed, newest first: after some of them one node holds the
-- resource, and after all of them another one
pub record OneAfterAnother : Type 0 where
  pub settings : Settings
  pub timing : Timing
  pub earlier : List Event
  pub events : List Event
  pub first_holder : ℕ
  pub second_holder : ℕ
  pub valid : IsValid settings
  pub safe : IsTrue (is_safe timing)
  pub allowed : AllAllowed settings timing events
  pub order : Before earlier events
  pub first_holds : IsTrue (is_holder settings (run settings timing earlier).moments first_holder)
  pub second_holds : IsTrue (is_holder settings (run settings timing events).moments second_holder)
  pub differ : ¬ (first_holder ≡ second_holder)

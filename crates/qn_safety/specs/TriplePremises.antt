-- The premises of the laws of three images are met: a schedule of a valid cluster in which one image is lost all the time,
-- and two nodes hold, one after the other.
use Rattle.std.specs.Prelude.{◌≡◌, ℕ, Bool, false, List, ◌==◌, not, IsTrue}
use Rattle.std.specs.List.{list_all}
use Rattle.qn_model.specs.declared.configuration.Settings.{Settings}
use Rattle.qn_model.specs.declared.times.Timing.{Timing}
use Rattle.qn_model.specs.Settings.{IsValid}
use Rattle.qn_model.specs.Timing.{is_safe}
use Rattle.qn_model.specs.Moments.{Before, is_holder}
use Rattle.qn_safety.specs.declared.triple_event.TripleEvent.{TripleEvent}
use Rattle.qn_safety.specs.declared.triple_event.TripleEvent.TheVariants as triple
use Rattle.qn_safety.specs.TripleRules.{is_image}
use Rattle.qn_safety.specs.TripleSteps.{AllAllowedTriple, run_triple}

-- something takes effect on an image at an event
abbrev pub takes_effect_on : ℕ → TripleEvent → Bool
takes_effect_on image (triple.LandOn rank other) = image == other
takes_effect_on image (triple.LateOn rank other number) = image == other
takes_effect_on image (triple.OperatorOn rank other message) = image == other
takes_effect_on image (triple.FailOn rank other) = false
takes_effect_on image (triple.One event) = false

-- nothing takes effect on an image
abbrev pub is_lost_image : ℕ → List TripleEvent → Bool
is_lost_image image events = list_all (λ event. not (takes_effect_on image event)) events

-- valid settings, safe timing and events that are each allowed, newest first, in which one image is lost: after some of them
-- one node holds the resource, and after all of them another one
pub record OneAfterAnotherOnTwo : Type 0 where
  pub settings : Settings
  pub timing : Timing
  pub image : ℕ
  pub earlier : List TripleEvent
  pub events : List TripleEvent
  pub first_holder : ℕ
  pub second_holder : ℕ
  pub valid : IsValid settings
  pub safe : IsTrue (is_safe timing)
  pub one_of_three : IsTrue (is_image image)
  pub lost : IsTrue (is_lost_image image events)
  pub allowed : AllAllowedTriple settings timing events
  pub order : Before earlier events
  pub first_holds : IsTrue (is_holder settings (run_triple settings timing earlier).moments first_holder)
  pub second_holds : IsTrue (is_holder settings (run_triple settings timing events).moments second_holder)
  pub differ : ¬ (first_holder ≡ second_holder)

-- At most one node holds in the world after any events that are allowed.
use Rattle.std.proofs.Common.{◌≡◌, ℕ, true, List}
use Rattle.qn_model.specs.declared.configuration.Settings.{Settings}
use Rattle.qn_model.specs.declared.times.Timing.{Timing}
use Rattle.qn_model.specs.declared.events.Event.{Event}
use Rattle.qn_model.specs.Timing.{is_safe}
use Rattle.qn_model.specs.Moments.{Itself, is_holder}
use Rattle.qn_model.specs.Steps.{run, AllAllowed}
use Rattle.qn_safety.specs.AnyNumbers.{AllMay, OneMayHold}
use Rattle.qn_safety.specs.Timed.{IsTimedRun}
use Rattle.qn_safety.proofs.Events.{IsAllowed, allowed_of, may_of, stage}
use Rattle.qn_safety.proofs.Facts.{headers_agree, clean_means_closed}
use Rattle.qn_safety.proofs.Mail.{written_means_bad_mail}
use Rattle.qn_safety.proofs.Rising.{numbers_rise}
use Rattle.qn_safety.proofs.Pairs.{at_most_one}

-- the moments of every run of the world are a timed run
pub timed : {s : Settings} {t : Timing} {events : List Event} → IsAllowed s t events → IsTimedRun s t (run s t events).moments
timed allowed = record {
  ruled = (stage allowed).ruled;
  rise = numbers_rise allowed;
  clean = clean_means_closed allowed;
  written = written_means_bad_mail allowed;
  headers = headers_agree allowed;
}

pub run_timed : (s : Settings) (t : Timing) (events : List Event) → AllAllowed s t events → IsTimedRun s t (run s t events).moments
run_timed s t events all = timed (allowed_of s t events all)

pub holder_of_allowed : (s : Settings) (t : Timing) (events : List Event) (i j : ℕ) → is_safe t ≡ true → IsAllowed s t events
    → is_holder s (run s t events).moments i ≡ true → is_holder s (run s t events).moments j ≡ true → i ≡ j
holder_of_allowed s t events i j safe allowed first second = at_most_one (timed allowed) safe (run s t events).moments Itself i j first second

pub one_holder : (s : Settings) (t : Timing) (events : List Event) (i j : ℕ) → is_safe t ≡ true → AllAllowed s t events
    → is_holder s (run s t events).moments i ≡ true → is_holder s (run s t events).moments j ≡ true → i ≡ j
one_holder s t events i j safe all = holder_of_allowed s t events i j safe (allowed_of s t events all)

-- the same of events with any numbers
pub one_may_hold : (s : Settings) (t : Timing) → is_safe t ≡ true → OneMayHold s t
one_may_hold s t safe events i j all = holder_of_allowed s t events i j safe (may_of s t events all)

pub any_run_timed : (s : Settings) (t : Timing) (events : List Event) → AllMay s t events → IsTimedRun s t (run s t events).moments
any_run_timed s t events all = timed (may_of s t events all)

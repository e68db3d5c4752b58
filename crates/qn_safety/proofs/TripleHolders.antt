-- At most one node holds in the world of three images after any events that are allowed.
use Rattle.std.proofs.Common.{◌≡◌, ℕ, true, List}
use Rattle.qn_model.specs.declared.configuration.Settings.{Settings}
use Rattle.qn_model.specs.declared.times.Timing.{Timing}
use Rattle.qn_model.specs.Moments.{Itself, is_holder}
use Rattle.qn_model.specs.Timing.{is_safe}
use Rattle.qn_safety.specs.declared.triple_event.TripleEvent.{TripleEvent}
use Rattle.qn_safety.specs.Timed.{IsTimedRun}
use Rattle.qn_safety.specs.TripleReported.{OneTripleReported}
use Rattle.qn_safety.specs.TripleWorld.{nodes_of}
use Rattle.qn_safety.specs.TripleSteps.{run_triple, AllAllowedTriple}
use Rattle.qn_safety.proofs.Incarnations.{reported_holder}
use Rattle.qn_safety.proofs.Pairs.{at_most_one}
use Rattle.qn_safety.specs.TripleNumbers.{OneMayHoldTriple}
use Rattle.qn_safety.proofs.TripleEvents.{IsAllowed, allowed_of, may_of, stage, numbers_rise}
use Rattle.qn_safety.proofs.TripleFacts.{headers_agree, clean_means_closed}
use Rattle.qn_safety.proofs.TripleMail.{written_means_bad_mail}

-- the moments of every run of the world of three images are a timed run
pub timed : {s : Settings} {t : Timing} {events : List TripleEvent} → IsAllowed s t events → IsTimedRun s t (run_triple s t events).moments
timed allowed = record {
  ruled = (stage allowed).ruled;
  rise = numbers_rise allowed;
  clean = clean_means_closed allowed;
  written = written_means_bad_mail allowed;
  headers = headers_agree allowed;
}

pub triple_run_timed : (s : Settings) (t : Timing) (events : List TripleEvent) → AllAllowedTriple s t events → IsTimedRun s t (run_triple s t events).moments
triple_run_timed s t events all = timed (allowed_of s t events all)

pub one_triple_holder : (s : Settings) (t : Timing) (events : List TripleEvent) (i j : ℕ) → is_safe t ≡ true → AllAllowedTriple s t events
    → is_holder s (run_triple s t events).moments i ≡ true → is_holder s (run_triple s t events).moments j ≡ true → i ≡ j
one_triple_holder s t events i j safe all first second =
    at_most_one (triple_run_timed s t events all) safe (run_triple s t events).moments Itself i j first second

-- at most one holder is reported
pub one_triple_reported : OneTripleReported
one_triple_reported s t events i j safe all first second =
    one_triple_holder s t events i j safe all (reported_holder s (nodes_of (run_triple s t events)) i first) (reported_holder s (nodes_of (run_triple s t events)) j second)

-- the same of events with any numbers
pub one_may_hold_triple : (s : Settings) (t : Timing) → is_safe t ≡ true → OneMayHoldTriple s t
one_may_hold_triple s t safe events i j all first second =
    at_most_one (timed (may_of s t events all)) safe (run_triple s t events).moments Itself i j first second

-- Beside an arbiter at most one node holds, and each run is timed, since the events that the nodes met are a run of the world
-- without one.
use Rattle.std.proofs.Common.{◌≡◌, ℕ, List, subst, sym}
use Rattle.std.specs.Prelude.{IsTrue}
use Rattle.qn_base.specs.Members.{is_member}
use Rattle.qn_model.specs.declared.configuration.Settings.{Settings}
use Rattle.qn_model.specs.declared.times.Timing.{Timing}
use Rattle.qn_model.specs.Steps.{holders}
use Rattle.qn_model.specs.Timing.{is_safe}
use Rattle.qn_model.specs.World.{World}
use Rattle.qn_safety.specs.Timed.{IsTimedRun}
use Rattle.qn_safety.specs.declared.arbiter_event.ArbiterEvent.{ArbiterEvent}
use Rattle.qn_safety.specs.declared.lease.Lease.{Lease}
use Rattle.qn_safety.specs.ArbiterSteps.{AllAllowedBeside, plays, run_beside}
use Rattle.qn_safety.proofs.Holders.{timed}
use Rattle.qn_safety.proofs.Incarnations.{one_of_allowed}
use Rattle.qn_safety.proofs.ArbiterPlaying.{plays_of, run_of}

pub one_holder_beside : (s : Settings) (t : Timing) (times : Lease) (events : List ArbiterEvent) (i j : ℕ) → IsTrue (is_safe t) → AllAllowedBeside s t times events
    → IsTrue (is_member (holders s (run_beside s t times events).world) i) → IsTrue (is_member (holders s (run_beside s t times events).world) j) → i ≡ j
one_holder_beside s t times events i j safe allowed first second =
    let met = plays_of s t times events (run_of s t times events allowed) in
    one_of_allowed s t (plays s t times events) i j safe met.allowed (subst (λ (w : World). IsTrue (is_member (holders s w) i)) met.same first)
    (subst (λ (w : World). IsTrue (is_member (holders s w) j)) met.same second)

pub run_timed_beside : (s : Settings) (t : Timing) (times : Lease) (events : List ArbiterEvent) → AllAllowedBeside s t times events → IsTimedRun s t (run_beside s t times events).world.moments
run_timed_beside s t times events allowed =
    let met = plays_of s t times events (run_of s t times events allowed) in
    subst (λ (w : World). IsTimedRun s t w.moments) (sym met.same) (timed met.allowed)

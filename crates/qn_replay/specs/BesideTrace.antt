-- A trace beside an arbiter tells of a run of the world, and each of its lines names one holder at most.
use Rattle.std.specs.Prelude.{◌≡◌, ℕ, ◌+◌, true, List, [], ◌∷◌, ◌++◌, length}
use Rattle.qn_arbiter.specs.TraceLines.{arbiter_trace_line}
use Rattle.qn_base.specs.Members.{is_member}
use Rattle.qn_safety.specs.declared.arbiter_event.ArbiterEvent.{ArbiterEvent}
use Rattle.qn_safety.specs.declared.lease.Lease.{Lease}
use Rattle.qn_safety.specs.declared.arbiter_reports.ArbiterReport.{ArbiterReport}
use Rattle.qn_safety.specs.ArbiterSteps.{AllAllowedBeside, report_beside, run_beside}
use Rattle.qn_safety.specs.Lease.{is_safe_lease}
use Rattle.qn_model.specs.declared.configuration.Settings.{Settings}
use Rattle.qn_model.specs.declared.times.Timing.{Timing}
use Rattle.qn_model.specs.Lines.{Ending}
use Rattle.qn_model.specs.Settings.{IsValid, ids}
use Rattle.qn_model.specs.Timing.{is_safe}
use Rattle.qn_replay.specs.BesideReplay.{replay_arbiter_of}

-- what is reported of an event after the earlier ones, newest first
abbrev pub reported : Settings → Timing → Lease → ArbiterEvent → List ArbiterEvent → ArbiterReport
reported s t times event earlier = report_beside s event (run_beside s t times earlier) (run_beside s t times (event ∷ earlier))

-- the trace lines of events, of which the newest stands first
unfoldable pub trace_of : Settings → Timing → Lease → List ArbiterEvent → List ℕ
trace_of s t times [] = []
trace_of s t times (event ∷ earlier) =
    trace_of s t times earlier
    ++ (arbiter_trace_line (ids s.nodes) (length earlier + 1) event (reported s t times event earlier) ++ 10 ∷ [])

-- the lines of a run: the settings are valid, the times and the lease are safe, each event was allowed in its turn, and at most
-- one holder is reported at each
pub record IsTraceOf (s : Settings) (t : Timing) (times : Lease) (events : List ArbiterEvent) (trace : List ℕ) : Type 0 where
  pub valid : IsValid s
  pub safe : is_safe t ≡ true
  pub safe_lease : is_safe_lease s times ≡ true
  pub allowed : AllAllowedBeside s t times events
  pub lines : trace ≡ trace_of s t times events
  pub one_holder : (later : List ArbiterEvent) (event : ArbiterEvent) (earlier : List ArbiterEvent) (i j : ℕ) → events ≡ later ++ event ∷ earlier
      → is_member (reported s t times event earlier).report.holders i ≡ true
      → is_member (reported s t times event earlier).report.holders j ≡ true
      → i ≡ j

-- a trace is empty, or the lines of a run
pub data IsRunTrace (trace : List ℕ) : Type 0 where
  Empty : trace ≡ [] → IsRunTrace trace
  Lines : (s : Settings) (t : Timing) (times : Lease) (events : List ArbiterEvent) → IsTraceOf s t times events trace → IsRunTrace trace

-- so is the trace of each replay
abbrev pub TracesAreRuns : Type 0
TracesAreRuns = (ending : Ending) (bytes : List ℕ) → IsRunTrace (replay_arbiter_of ending bytes).trace

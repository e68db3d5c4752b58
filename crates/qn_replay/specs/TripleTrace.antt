-- A trace of three images tells of a run of their world, and each of its lines names one holder at most.
use Rattle.std.specs.Prelude.{◌≡◌, ℕ, ◌+◌, true, List, [], ◌∷◌, ◌++◌, length}
use Rattle.qn_base.specs.Members.{is_member}
use Rattle.qn_model.specs.declared.configuration.Settings.{Settings}
use Rattle.qn_model.specs.declared.times.Timing.{Timing}
use Rattle.qn_model.specs.Lines.{Ending}
use Rattle.qn_model.specs.Settings.{IsValid, ids}
use Rattle.qn_model.specs.Timing.{is_safe}
use Rattle.qn_safety.specs.declared.triple_event.TripleEvent.{TripleEvent}
use Rattle.qn_safety.specs.TripleSteps.{AllAllowedTriple, report_triple, run_triple}
use Rattle.qn_sched.specs.TraceLines.{trace_line}
use Rattle.qn_replay.specs.TripleReplay.{replay3_of}

-- the trace lines of events, of which the newest stands first
unfoldable pub trace_of : Settings → Timing → List TripleEvent → List ℕ
trace_of s t [] = []
trace_of s t (event ∷ earlier) =
    trace_of s t earlier
    ++ (trace_line (ids s.nodes) (length earlier + 1) (report_triple s event (run_triple s t (event ∷ earlier))) ++ 10 ∷ [])

-- the lines of a run: the settings are valid, the times are safe, each event was allowed in its turn, and at most one holder is
-- reported at each
pub record IsTraceOf (s : Settings) (t : Timing) (events : List TripleEvent) (trace : List ℕ) : Type 0 where
  pub valid : IsValid s
  pub safe : is_safe t ≡ true
  pub allowed : AllAllowedTriple s t events
  pub lines : trace ≡ trace_of s t events
  pub one_holder : (later : List TripleEvent) (event : TripleEvent) (earlier : List TripleEvent) (i j : ℕ) → events ≡ later ++ event ∷ earlier
      → is_member (report_triple s event (run_triple s t (event ∷ earlier))).holders i ≡ true
      → is_member (report_triple s event (run_triple s t (event ∷ earlier))).holders j ≡ true
      → i ≡ j

-- a trace is empty, or the lines of a run
pub data IsRunTrace (trace : List ℕ) : Type 0 where
  Empty : trace ≡ [] → IsRunTrace trace
  Lines : (s : Settings) (t : Timing) (events : List TripleEvent) → IsTraceOf s t events trace → IsRunTrace trace

-- so is the trace of each replay
abbrev pub TracesAreRuns : Type 0
TracesAreRuns = (ending : Ending) (bytes : List ℕ) → IsRunTrace (replay3_of ending bytes).trace

-- What is written of a schedule is the trace of a run, and a last line.
use Rattle.std.proofs.Common.{◌≡◌, ℕ, List, [], refl, sym, subst, append-nil}
use Rattle.qn_io.specs.Writes.{AppendsFront}
use Rattle.qn_model.specs.Inputs.{BeginsWith}
use Rattle.qn_model.specs.Lines.{Ending}
use Rattle.qn_playback.specs.Reading.{Rest}
use Rattle.qn_sched.specs.declared.replay_end.ReplayEnd.TheVariants as end
use Rattle.qn_commands.specs.declared.fault.Fault.TheVariants as fault
use Rattle.qn_commands.specs.Faults.{fault_line}
use Rattle.qn_commands.specs.Reads.{EndsAs, WroteAll, WroteFront}
use Rattle.qn_commands.specs.RunLaws.{of_some}
use Rattle.qn_commands.specs.Seen.{Output, Seen}
use Rattle.qn_top.specs.Traces.{RunsTrace, ShowsTrace, Told, TraceEnds, Wanted, trace_text}
use Rattle.qn_top.proofs.Written.{after_text, longer, says_prefix, whole_prefix}
use Rattle.std.specs.Io.KnownBytes.{append_known}

module _ {Last : Type 0} (played_of : Rest Last) (is_run : List ℕ → Type 0) (before later : Output)
    (runs : (ending : Ending) (bytes : List ℕ) → is_run (played_of ending bytes).trace) where
  shows_answer : (ending : Ending) (bytes : List ℕ) → AppendsFront before.written later.written (trace_text played_of ending bytes).text
      → ShowsTrace is_run before.written later.written
  shows_answer ending bytes writes = record {
    shown = (played_of ending bytes).trace;
    hidden = [];
    run = subst is_run (sym (append-nil (played_of ending bytes).trace)) (runs ending bytes);
    end = (played_of ending bytes).end;
    writes = writes;
  }

  shows_told : {taken : List ℕ} {at_end failed : Type 0} {status : ℕ}
      → EndsAs (trace_text played_of) taken [] at_end failed before later status → ShowsTrace is_run before.written later.written
  shows_told (WroteAll outcome tells is whole) =
      let input = of_some (trace_text played_of) (λ o. o ≡ outcome) tells in
      shows_answer input.ending input.bytes
      (subst (λ o. AppendsFront before.written later.written o.text) (sym input.holds) (whole_prefix outcome.text whole))
  shows_told (WroteFront text tells is fails prefix) =
      let input = of_some (trace_text played_of) (λ o. BeginsWith o.text text) tells in
      shows_answer input.ending input.bytes
      (subst (AppendsFront before.written later.written) (sym input.holds.1) (longer text input.holds.0 prefix))

  shows_end : {wanted : List ℕ → List ℕ → Type 0} {taken : List ℕ} {at_end failed : Type 0} {status : ℕ}
      → TraceEnds played_of wanted taken at_end failed before later status → ShowsTrace is_run before.written later.written
  shows_end (Told ends) = shows_told ends
  shows_end (Wanted trace tells why refuses) =
      let input = of_some played_of (λ a. BeginsWith a.trace trace) tells in
      record {
        shown = trace;
        hidden = input.holds.0;
        run = subst is_run input.holds.1 (runs input.ending input.bytes);
        end = end.NoMemory;
        writes = after_text (append_known before.written trace) trace (fault_line fault.NoMemory) refl (says_prefix refuses);
      }

-- what was written of a schedule each of whose traces is that of a run
pub shows_trace : {Last : Type 0} (played_of : Rest Last) {wanted : List ℕ → List ℕ → Type 0} (is_run : List ℕ → Type 0) {before later : Seen} {status : ℕ}
    → ((ending : Ending) (bytes : List ℕ) → is_run (played_of ending bytes).trace) → RunsTrace played_of wanted before later status
    → ShowsTrace is_run before.output.written later.output.written
shows_trace played_of is_run {before} {later} runs run = shows_end played_of is_run before.output later.output runs run.ends

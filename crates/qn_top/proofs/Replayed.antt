-- The end of what is played, and the last line after its trace.
use Rattle.std.proofs.Common.{◌≡◌, ◌≢◌, ◌≤◌, ℕ, List, [], ◌++◌, refl, sym, ap, ◌∙◌, subst, append_assoc, append-nil, arith}
use Rattle.std.specs.Io.KnownBytes.{append_known}
use Rattle.qn_base.specs.Rising.{HasRisen-within}
use Rattle.qn_io.specs.Outside.{append_known-append, append_known-nil}
use Rattle.qn_io.specs.Writes.{AppendsFront}
use Rattle.qn_model.specs.Inputs.{BeginsWith, Tells, Anyway, AtEnd, AtFailure}
use Rattle.qn_model.specs.Lines.{Outcome, after}
use Rattle.qn_playback.specs.Reading as reading
use Rattle.qn_playback.specs.Played.{Played}
use Rattle.qn_playback.specs.Reading.{Rest}
use Rattle.qn_playback.specs.Runs.{EndsAs, Runs, Unwritten, Wanted, WroteAll}
use Rattle.qn_sched.specs.declared.replay_end.ReplayEnd.{ReplayEnd}
use Rattle.qn_sched.specs.declared.replay_end.ReplayEnd.TheVariants as end
use Rattle.qn_commands.specs.Endings.{Cut, Says, Whole}
use Rattle.qn_commands.specs.Reads.{IsNeeded, LastDecides, StillOpen, WroteAll as WroteText, WroteFront}
use Rattle.qn_commands.specs.Seen.{Input, Output, Outside, ReadFails, WriteFails, seen}
use Rattle.qn_top.specs.ReplayEnds.{end_outcome}
use Rattle.qn_top.specs.Traces.{RunsTrace, Told, TraceEnds, Wanted as WantedAfter, trace_text}
use Rattle.qn_top.proofs.Written.{after_text, says_after}

-- what an answer gives as a whole
abbrev whole_of : {Last : Type 0} → Played Last → Outcome
whole_of answer = after answer.trace (end_outcome answer.end)

module _ {Last : Type 0} (played_of : Rest Last) where
  tells_text : {taken : List ℕ} {at_end failed : Type 0} (P : Played Last → Type 0) (Q : Outcome → Type 0) → ((a : Played Last) → P a → Q (whole_of a))
      → Tells played_of taken at_end failed P → Tells (trace_text played_of) taken at_end failed Q
  tells_text P Q weaker (Anyway always) = Anyway (λ ending more. weaker _ (always ending more))
  tells_text P Q weaker (AtEnd ended holds) = AtEnd ended (weaker _ holds)
  tells_text P Q weaker (AtFailure fails holds) = AtFailure fails (weaker _ holds)

  -- the bytes that the end needs are those that the text needs
  needed_text : {taken : List ℕ} → reading.IsNeeded played_of taken → IsNeeded (trace_text played_of) taken
  needed_text (reading.StillOpen still) = StillOpen (ap (λ (e : ReplayEnd). (end_outcome e).status) still)
  needed_text (reading.LastDecides front byte parts still) = LastDecides front byte parts (ap (λ (e : ReplayEnd). (end_outcome e).status) still)

  module _ {wanted : List ℕ → List ℕ → Type 0} {taken : List ℕ} {at_end failed : Type 0} (before : Output) where
    -- the sink failed inside the trace
    cut_trace : (later : Output) (trace : List ℕ) → Tells played_of taken at_end failed (λ a. BeginsWith a.trace trace) → WriteFails before later
        → AppendsFront before.written later.written trace → TraceEnds played_of wanted taken at_end failed before later 7
    cut_trace later trace tells fails prefix =
        Told (WroteFront trace
        (tells_text (λ a. BeginsWith a.trace trace) (λ o. BeginsWith o.text trace)
        (λ a begins. (begins.0 ++ (end_outcome a.end).text, ap (λ t. t ++ (end_outcome a.end).text) begins.1 ∙ append_assoc trace begins.0 (end_outcome a.end).text)) tells)
        refl fails prefix)

    -- the trace was written, and then the last line, or a prefix of it
    whole_trace : (middle later : Output) (status : ℕ) (answer : Played Last) → before.faults ≤ middle.faults → middle.faults ≤ later.faults
        → Tells played_of taken at_end failed (λ a. a ≡ answer) → middle.written ≡ append_known before.written answer.trace
        → Says (end_outcome answer.end).text (end_outcome answer.end).status middle later status → TraceEnds played_of wanted taken at_end failed before later status
    whole_trace middle later status answer rises goes tells wrote (Whole is whole) =
        Told (WroteText (whole_of answer)
        (tells_text (λ a. a ≡ answer) (λ o. o ≡ whole_of answer) (λ a same. ap whole_of same) tells)
        is
        (whole ∙ ap (λ known. append_known known (end_outcome answer.end).text) wrote ∙ sym (append_known-append before.written answer.trace (end_outcome answer.end).text)))
    whole_trace middle later status answer rises goes tells wrote (Cut is fails prefix) =
        subst (λ (s : ℕ). TraceEnds played_of wanted taken at_end failed before later s) (sym is)
        (Told (WroteFront (answer.trace ++ (end_outcome answer.end).text)
        (tells_text (λ a. a ≡ answer) (λ o. BeginsWith o.text (answer.trace ++ (end_outcome answer.end).text))
        (λ a same. ([], ap (λ b. (whole_of b).text) same ∙ sym (append-nil (answer.trace ++ (end_outcome answer.end).text)))) tells)
        refl (HasRisen-within before.faults middle.faults later.faults later.faults rises goes (omega arith) fails)
        (after_text middle.written answer.trace (end_outcome answer.end).text wrote prefix)))

    -- a run that ended, and its last line
    finished : {standing : Last → Type 0} (middle later : Output) (status : ℕ) (ended : ReplayEnd) → ended ≢ end.WriteFault → before.faults ≤ middle.faults → middle.faults ≤ later.faults
        → EndsAs played_of standing wanted taken at_end failed before.written middle.written (WriteFails before middle) ended
        → Says (end_outcome ended).text (end_outcome ended).status middle later status → TraceEnds played_of wanted taken at_end failed before later status
    finished middle later status ended other rises goes (WroteAll answer tells is whole anywhere) says =
        whole_trace middle later status answer rises goes tells whole
        (subst (λ (e : ReplayEnd). Says (end_outcome e).text (end_outcome e).status middle later status) is says)
    finished middle later status ended other rises goes (Unwritten trace tells is fails prefix) says = absurd (other is)
    finished middle later status ended other rises goes (Wanted trace tells is whole why) says =
        WantedAfter trace tells why
        (says_after before middle later trace whole rises goes
        (subst (λ (e : ReplayEnd). Says (end_outcome e).text (end_outcome e).status middle later status) is says))

    -- a run whose sink failed
    unwritten : {standing : Last → Type 0} (later : Output) → before.faults ≤ later.faults → EndsAs played_of standing wanted taken at_end failed before.written later.written (WriteFails before later) end.WriteFault
        → TraceEnds played_of wanted taken at_end failed before later 7
    unwritten later rises (WroteAll answer tells is whole anywhere) =
        whole_trace later later 7 answer rises (omega arith) tells whole
        (subst (λ (e : ReplayEnd). Says (end_outcome e).text (end_outcome e).status later later 7) is (Whole refl (sym (append_known-nil later.written))))
    unwritten later rises (Unwritten trace tells is fails prefix) = cut_trace later trace tells fails prefix
    unwritten later rises (Wanted trace tells is whole why) = cc

  module _ (first last : Input) (before later : Output) (env : Outside) where
    -- the whole command
    pub trace_finished : {standing : Last → Type 0} {wanted : List ℕ → List ℕ → Type 0} (middle : Output) (status : ℕ) (ended : ReplayEnd) → ended ≢ end.WriteFault → before.faults ≤ middle.faults → middle.faults ≤ later.faults
        → Runs played_of standing wanted first.left last.left (ReadFails first last) before.written middle.written (WriteFails before middle) ended
        → Says (end_outcome ended).text (end_outcome ended).status middle later status
        → RunsTrace played_of wanted (seen first before env) (seen last later env) status
    trace_finished middle status ended other rises goes run says = record {
      taken = run.taken;
      waiting = run.waiting;
      takes = run.takes;
      needed = needed_text run.needed;
      within = run.within;
      ends = finished before middle later status ended other rises goes run.ends says;
    }

    -- the whole command, where the sink failed inside the trace
    pub trace_unwritten : {standing : Last → Type 0} {wanted : List ℕ → List ℕ → Type 0} → before.faults ≤ later.faults
        → Runs played_of standing wanted first.left last.left (ReadFails first last) before.written later.written (WriteFails before later) end.WriteFault
        → RunsTrace played_of wanted (seen first before env) (seen last later env) 7
    trace_unwritten rises run = record {
      taken = run.taken;
      waiting = run.waiting;
      takes = run.takes;
      needed = needed_text run.needed;
      within = run.within;
      ends = unwritten before later rises run.ends;
    }

-- The next line of a log: the run goes on by it, or the audit ends.
use Rattle.std.proofs.Common.{◌≡◌, ◌≢◌, ◌<◌, ◌≤◌, ◌==◌, true, false, ℕ, List, [], ◌∷◌, ◌++◌, Option, Result, Ok, Err, drop, length, refl, sym, ap, ◌∙◌, subst, arith, nat_lt, append_assoc, lt-ltb, le-ltb, eq-eqb, ne_eqb, zero, suc}
use Rattle.std.specs.Io.KnownBytes.{IsAtEnd, prepend_known}
use Rattle.std.proofs.lemmas.Bool.{cond-false, cond-true}
use Rattle.std.proofs.lemmas.List.{length-append}
use Rattle.std.proofs.lemmas.List.Elements.{All-push}
use Rattle.qn_base.specs.declared.calls.Call.{Call}
use Rattle.qn_io.specs.declared.lines.LineRead.{LineRead}
use Rattle.qn_io.specs.declared.lines.LineRead.TheVariants as read
use Rattle.qn_io.specs.declared.next_line.NextLine.{NextLine}
use Rattle.qn_io.specs.Lines.{IsDrainedLine, OnFailedLine, ReadsLine}
use Rattle.qn_io.specs.NextLines.{own_count, read_of, text_of}
use Rattle.qn_io.specs.Outside.{prepend_known-nil}
use Rattle.qn_model.specs.declared.line_fault.LineFault.{LineFault}
use Rattle.qn_model.specs.declared.line_fault.LineFault.TheVariants.{TooLong, TooMany, Unended}
use Rattle.qn_model.specs.Inputs.{Anyway, AtEnd, AtFailure}
use Rattle.qn_model.specs.LineLaws.{IsPartOfLine, first_line, lines_of-last, lines_of-line, lines_of-some}
use Rattle.qn_model.specs.Lines.{Ending, Ended, ReadFailed, lines_of}
use Rattle.qn_audit.specs.declared.audit_end.AuditEnd.{AuditEnd}
use Rattle.qn_audit.specs.declared.audit_end.AuditEnd.TheVariants.{ReadFault}
use Rattle.qn_audit.specs.Auditing.{AtFault, JudgesLine, LinesEnd, LogEnds, Next, NotNext, Standing, after_call, bad_line, call_at, end_at, end_of_log, is_now, last_line, turns_in}
use Rattle.qn_audit.specs.Deciding.{IsOpen, LastDecides, Leads, StillOpen, Stops, input_of}
use Rattle.qn_audit.specs.Judging.{IsNext}
use Rattle.qn_audit.specs.Reading.{call_of}
use Rattle.qn_audit.specs.Taking.{EndsHere}

module _ (end : AuditEnd) (at : Standing) (ending : Ending) where
  -- what comes of what a whole line says, after the line and with those after it
  abbrev Judged : List ℕ → List (List ℕ) → Type 0
  Judged line lines = JudgesLine end at (call_at at.lines line) (λ call. LinesEnd end (after_call at call) ending lines)

  line_first : (line : List ℕ) (lines : List (List ℕ)) → 0 < length lines → Judged line lines → LinesEnd end at ending (line ∷ lines)
  line_first line [] some judged = absurd (omega arith)
  line_first line (next ∷ lines) some judged = judged

  -- a whole line, whatever follows
  pub ends_line : (line more : List ℕ) → IsPartOfLine line → Judged line (lines_of more) → LogEnds at end (input_of ending ((line ++ 10 ∷ []) ++ more))
  ends_line line more inside judged =
      subst (λ (lines : List (List ℕ)). LinesEnd end at ending lines)
      (sym (ap lines_of (append_assoc line (10 ∷ []) more) ∙ lines_of-line line more inside))
      (line_first line (lines_of more) (lines_of-some more) judged)

  -- the input ended, or a read failed, after the last end of a line
  pub ends_last : (line : List ℕ) → IsPartOfLine line → length line ≤ 4096 → end ≡ end_of_log at ending line → LogEnds at end (input_of ending line)
  unfolding last_line
  ends_last line inside short is =
      subst (λ (lines : List (List ℕ)). LinesEnd end at ending lines) (sym (lines_of-last line inside))
      (is ∙ sym (cond-false (nat_lt 4096 (length line)) _ _ (le-ltb 4096 (length line) short)))

  long_first : (line : List ℕ) (lines : List (List ℕ)) → 4096 < length line → end ≡ bad_line at TooLong → LinesEnd end at ending (line ∷ lines)
  unfolding last_line call_at
  long_first line [] long is = is ∙ sym (cond-true (nat_lt 4096 (length line)) _ _ (lt-ltb 4096 (length line) long))
  long_first line (next ∷ lines) long is = AtFault TooLong (cond-true (nat_lt 4096 (length line)) _ _ (lt-ltb 4096 (length line) long)) is

  -- too many bytes of a line, whatever follows
  ends_long : (front more : List ℕ) → IsPartOfLine front → 4096 < length front → end ≡ bad_line at TooLong → LogEnds at end (input_of ending (front ++ more))
  ends_long front more inside long is =
      let first = first_line front more inside in
      subst (λ (lines : List (List ℕ)). LinesEnd end at ending lines) (sym first.cut)
      (long_first (front ++ first.more) first.others (omega (arith, length-append front first.more)) is)

-- an audit is open inside a line
pub open_inside : (at : Standing) (line : List ℕ) → IsPartOfLine line → length line ≤ 4096 → IsOpen (LogEnds at) line
open_inside at line inside short = ends_last ReadFault at ReadFailed line inside short refl

module _ (at : Standing) (line : List ℕ) (inside : IsPartOfLine line) (short : length line ≤ 4096) where
  -- the line is the next call
  pub leads_on : {a b : Option (List ℕ)} (call : Call) → a ≡ prepend_known (line ++ 10 ∷ []) b → call_at at.lines line ≡ Ok call → IsNext at.plan call
      → Leads (LogEnds at) (LogEnds (after_call at call)) a b
  leads_on call takes says next = record {
    taken = line ++ 10 ∷ [];
    takes = takes;
    needed = LastDecides line 10 refl (open_inside at line inside short);
    rest = λ end ending more ends_so. ends_line end at ending line more inside (Next call says next ends_so);
  }

  -- an end by a line holds whatever follows it
  judged_so : (end : AuditEnd) (said : Result Call LineFault) (Follow : Call → Type 0) → JudgesLine end at said (λ call. ⊥) → JudgesLine end at said Follow
  judged_so end said Follow (AtFault fault is ends) = AtFault fault is ends
  judged_so end said Follow (NotNext call says other ends) = NotNext call says other ends
  judged_so end said Follow (Next call says next never) = absurd never

  -- what was read of a line ends the audit
  pub stops_here : (what : LineRead) (waiting : List ℕ) (left a : Option (List ℕ)) {failed : Type 0} (end : AuditEnd)
      → ReadsLine what line a (prepend_known waiting left) → IsDrainedLine what waiting → OnFailedLine what failed → EndsHere what end at line
      → Stops (LogEnds at) a (prepend_known waiting left) ((waiting ≡ []) × IsAtEnd left) ((waiting ≡ []) × failed) end
  stops_here read.Line waiting left a end takes drained cause judged = record {
    taken = line ++ 10 ∷ [];
    takes = takes;
    needed = LastDecides line 10 refl (open_inside at line inside short);
    tells = Anyway (λ ending more. ends_line end at ending line more inside (judged_so end _ _ judged));
  }
  stops_here read.Rest waiting left a end takes drained cause is = record {
    taken = line;
    takes = takes.0;
    needed = StillOpen (open_inside at line inside short);
    tells = AtEnd (drained, subst IsAtEnd (ap (λ w. prepend_known w left) drained ∙ prepend_known-nil left) takes.1) (ends_last end at Ended line inside short is);
  }
  stops_here read.TooLong waiting left a end takes drained cause is = record {
    taken = line ++ takes.byte ∷ [];
    takes = takes.takes;
    needed = LastDecides line takes.byte refl (open_inside at line inside short);
    tells = Anyway (λ ending more.
        ends_long end at ending (line ++ takes.byte ∷ []) more (All-push (λ b. (b == 10) ≡ false) line takes.byte inside takes.goes_on)
        (omega (arith, length-append line (takes.byte ∷ []), takes.full)) is);
  }
  stops_here read.Failed waiting left a end takes drained cause is = record {
    taken = line;
    takes = takes;
    needed = StillOpen (open_inside at line inside short);
    tells = AtFailure (drained, cause) (ends_last end at ReadFailed line inside short is);
  }

-- what is to come behind a line that was read where it stands, once its own bytes were passed over
pub next_read : (next : NextLine) (what : LineRead) (line waiting copied passed : List ℕ) (count : ℕ) (old left : Option (List ℕ))
    → what ≡ read_of next → line ≡ text_of next waiting copied → count ≡ own_count next → passed ≡ drop count waiting
    → ReadsLine (read_of next) (text_of next waiting copied) old (prepend_known (drop (own_count next) waiting) left)
    → ReadsLine what line old (prepend_known passed left)
next_read next what line waiting copied passed count old left what_is line_is count_is passed_is reads =
    rw (what_is, line_is, passed_is, count_is) reads

-- no byte waits after it, where none waited
pub still_drained : (next : NextLine) (what : LineRead) (waiting passed : List ℕ) (count : ℕ) → what ≡ read_of next → count ≡ own_count next → passed ≡ drop count waiting
    → IsDrainedLine (read_of next) waiting → IsDrainedLine what passed
still_drained next what waiting passed count what_is count_is passed_is drained = rw what_is (of_read (read_of next) drained)
  where
    dropped : (count : ℕ) (waiting : List ℕ) → waiting ≡ [] → drop count waiting ≡ []
    dropped zero waiting none = none
    dropped (suc count) [] none = refl
    dropped (suc count) (byte ∷ waiting) none = absurd cc

    of_read : (found : LineRead) → IsDrainedLine found waiting → IsDrainedLine found passed
    of_read read.Line none = tt
    of_read read.Rest none = passed_is ∙ dropped count waiting none
    of_read read.TooLong none = tt
    of_read read.Failed none = passed_is ∙ dropped count waiting none

-- one line too many
pub call_at-many : (lines : ℕ) (line : List ℕ) → length line ≤ 4096 → lines ≡ 2000000 → call_at lines line ≡ Err TooMany
unfolding call_at
call_at-many lines line short many =
    cond-false (nat_lt 4096 (length line)) _ _ (le-ltb 4096 (length line) short) ∙ cond-true (lines == 2000000) _ _ (eq-eqb lines 2000000 many)

-- within the bounds of a log its words decide
pub call_at-within : (lines : ℕ) (line : List ℕ) → length line ≤ 4096 → lines ≢ 2000000 → call_at lines line ≡ call_of line
unfolding call_at
call_at-within lines line short few =
    cond-false (nat_lt 4096 (length line)) _ _ (le-ltb 4096 (length line) short) ∙ cond-false (lines == 2000000) _ _ (ne_eqb lines 2000000 few)

-- what follows the last end of a line
pub end_at-rest : (at : Standing) (rest : List ℕ) → 0 < length rest → end_at at rest ≡ bad_line at Unended
end_at-rest at [] some = absurd (omega arith)
end_at-rest at (byte ∷ rest) some = refl

-- whether a call begins a turn
pub turns_in-now : (call : Call) → is_now call ≡ true → turns_in (call ∷ []) ≡ 1
turns_in-now call is = rw is refl

pub turns_in-other : (call : Call) → is_now call ≡ false → turns_in (call ∷ []) ≡ 0
turns_in-other call is = rw is refl

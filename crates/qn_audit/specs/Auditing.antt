-- What an audit of a log comes to, line by line: this project's profile.
use Rattle.std.specs.Prelude.{◌≡◌, ◌==◌, ℕ, ◌+◌, nat_lt, if◌then◌else◌, Bool, true, false, List, [], ◌∷◌, filter, length, Option, None, Some, Result, Ok, Err}
use Rattle.qn_base.specs.declared.calls.Call.{Call}
use Rattle.qn_base.specs.declared.calls.Call.TheVariants as call
use Rattle.qn_base.specs.declared.limits.TheConstants.{MOST_LINE_BYTES}
use Rattle.qn_base.specs.Plans.{Plan, left, question}
use Rattle.qn_live.specs.Machine.{EndsWith}
use Rattle.qn_live.specs.Running.{Ran}
use Rattle.qn_live.specs.Images.{RunsAs}
use Rattle.qn_model.specs.declared.line_fault.LineFault.{LineFault}
use Rattle.qn_model.specs.declared.line_fault.LineFault.TheVariants.{TooLong, TooMany, Unended}
use Rattle.qn_model.specs.Lines.{Ending, Ended, ReadFailed, lines_of}
use Rattle.qn_audit.specs.declared.audit_end.AuditEnd.{AuditEnd}
use Rattle.qn_audit.specs.declared.audit_end.AuditEnd.TheVariants.{BadSchedule, NotARun, Prefix, ReadFault, Whole}
use Rattle.qn_audit.specs.declared.auditor.Auditor.{Auditor}
use Rattle.qn_audit.specs.declared.auditor.Verdict.{Verdict}
use Rattle.qn_audit.specs.declared.auditor.Verdict.TheVariants as verdict
use Rattle.qn_audit.specs.declared.log_place.TheConstants.{MOST_LOG_LINES}
use Rattle.qn_audit.specs.Deciding.{Input}
use Rattle.qn_audit.specs.Judging.{GoesOn, IsNext}
use Rattle.qn_audit.specs.Reading.{call_of}

-- what is left of the run is that plan
abbrev pub StandsFor : Auditor → Plan Ran → Type 0
StandsFor auditor plan = RunsAs auditor.run plan

abbrev pub IsJudging : Auditor → Type 0
IsJudging auditor = (plan : Plan Ran) × StandsFor auditor plan

-- the verdict fits what is left: it has ended so, or goes on
abbrev pub VerdictFor : Verdict → Plan Ran → Type 0
VerdictFor (verdict.Whole end) plan = EndsWith plan end
VerdictFor verdict.Prefix plan = GoesOn plan

-- the call looks at the clock
abbrev pub is_now : Call → Bool
is_now (call.Now tick) = true
is_now (call.OpenImage path ok) = false
is_now (call.OpenNode images image watchdog resource port rank ok) = false
is_now (call.Receive got) = false
is_now (call.Read sector bytes ok) = false
is_now (call.Write sector bytes ok) = false
is_now (call.Feed ok) = false
is_now (call.Start ok) = false
is_now (call.Stop ok) = false
is_now (call.Send to bytes ok) = false
is_now (call.Disarm ok) = false
is_now (call.Halt code) = false

-- the turns of a log: how often the clock was looked at
abbrev pub turns_in : List Call → ℕ
turns_in calls = length (filter is_now calls)

-- ---- the lines of a log

-- Where an audit stands after good lines: what is left of the run, how many lines the head of the input had, and how many lines
-- and how many turns of the log were good.
pub record Standing : Type 0 where
  pub plan : Plan Ran
  pub head : ℕ
  pub lines : ℕ
  pub turns : ℕ

-- before the first line of a log
abbrev pub at_first : Plan Ran → ℕ → Standing
at_first plan head = record { plan = plan; head = head; lines = 0; turns = 0 }

-- after one more good line, which says this call
abbrev pub after_call : Standing → Call → Standing
after_call at call =
    record { plan = left at.plan call; head = at.head; lines = at.lines + 1; turns = at.turns + turns_in (call ∷ []) }

-- the number of the line after the good ones in the whole input, from 1
abbrev pub next_line : Standing → ℕ
next_line at = at.head + at.lines + 1

abbrev pub bad_line : Standing → LineFault → AuditEnd
bad_line at fault = BadSchedule (next_line at) fault

-- what the line after so many good ones says, without its end: the bounds of a log come before its words
unfoldable pub call_at : ℕ → List ℕ → Result Call LineFault
call_at lines line =
    if nat_lt MOST_LINE_BYTES (length line) then Err TooLong
    else if lines == MOST_LOG_LINES then Err TooMany
    else call_of line

-- A line at fault ends the audit so, and so does a call that the run does not ask for; after the call that it asks for, the
-- lines that follow decide.
pub data JudgesLine (end : AuditEnd) (at : Standing) (said : Result Call LineFault) (Follow : Call → Type 0) : Type 0 where
  AtFault : (fault : LineFault) → said ≡ Err fault → end ≡ bad_line at fault → JudgesLine end at said Follow
  NotNext : (call : Call) → said ≡ Ok call → (IsNext at.plan call → ⊥) → end ≡ NotARun (next_line at) → JudgesLine end at said Follow
  Next : (call : Call) → said ≡ Ok call → IsNext at.plan call → Follow call → JudgesLine end at said Follow

-- the end of a log of so many turns, by the call that the run would make next
abbrev pub over_or_not : Option Call → ℕ → AuditEnd
over_or_not None turns = Whole turns
over_or_not (Some wanted) turns = Prefix turns

-- the end of a log whose last end of a line these bytes follow
abbrev pub end_at : Standing → List ℕ → AuditEnd
end_at at [] = over_or_not (question at.plan) at.turns
end_at at (byte ∷ rest) = bad_line at Unended

-- the same, where the input may not have been read to its end
abbrev pub end_of_log : Standing → Ending → List ℕ → AuditEnd
end_of_log at Ended rest = end_at at rest
end_of_log at ReadFailed rest = ReadFault

-- the same, where too many bytes of a line come before everything else
unfoldable pub last_line : Standing → Ending → List ℕ → AuditEnd
last_line at ending rest =
    if nat_lt MOST_LINE_BYTES (length rest) then bad_line at TooLong else end_of_log at ending rest

-- the lines after the good ones end the audit so; the last of them is what follows the last end of a line
abbrev pub LinesEnd : AuditEnd → Standing → Ending → List (List ℕ) → Type 0
LinesEnd end at ending [] = end ≡ last_line at ending []
LinesEnd end at ending (rest ∷ []) = end ≡ last_line at ending rest
LinesEnd end at ending (line ∷ next ∷ lines) =
    JudgesLine end at (call_at at.lines line) (λ call. LinesEnd end (after_call at call) ending (next ∷ lines))

-- the bytes after the good lines end the audit so
abbrev pub LogEnds : Standing → AuditEnd → Input → Type 0
LogEnds at end input = LinesEnd end at input.ending (lines_of input.bytes)

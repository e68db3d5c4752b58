-- How an audit takes what was read of a line of a log: this project's profile.
use Rattle.std.specs.Prelude.{◌≡◌, ℕ, ◌+◌, List, [], ◌∷◌, Ok}
use Rattle.qn_base.specs.declared.calls.Call.{Call}
use Rattle.qn_base.specs.Plans.{Plan, left}
use Rattle.qn_io.specs.declared.lines.LineRead.{LineRead}
use Rattle.qn_io.specs.declared.lines.LineRead.TheVariants as read
use Rattle.qn_live.specs.Running.{Ran}
use Rattle.qn_model.specs.declared.line_fault.LineFault.TheVariants.{TooLong}
use Rattle.qn_audit.specs.declared.audit_end.AuditEnd.{AuditEnd}
use Rattle.qn_audit.specs.declared.audit_end.AuditEnd.TheVariants.{ReadFault}
use Rattle.qn_audit.specs.declared.auditor.Auditor.{Auditor}
use Rattle.qn_audit.specs.declared.log_place.LogPlace.{LogPlace}
use Rattle.qn_audit.specs.Auditing.{JudgesLine, Standing, StandsFor, bad_line, call_at, end_at, turns_in}
use Rattle.qn_audit.specs.Judging.{IsNext}

-- where the audit stands at a place in the log, with what is left of the run
abbrev pub standing : LogPlace → Plan Ran → Standing
standing place plan = record { plan = plan; head = place.head; lines = place.lines; turns = place.turns }

-- the line says the call that the run asks for, and both went on by it
pub record Takes (old new : LogPlace) (auditor_old auditor_new : Auditor) (line : List ℕ) : Type 0 where
  pub call : Call
  pub says : call_at old.lines line ≡ Ok call
  pub next : (plan : Plan Ran) → StandsFor auditor_old plan → IsNext plan call
  pub stands : (plan : Plan Ran) → StandsFor auditor_old plan → StandsFor auditor_new (left plan call)
  pub head : new.head ≡ old.head
  pub lines : new.lines ≡ old.lines + 1
  pub turns : new.turns ≡ old.turns + turns_in (call ∷ [])

-- what was read of the line after the good ones ends the audit so
abbrev pub EndsHere : LineRead → AuditEnd → Standing → List ℕ → Type 0
EndsHere read.Line end at line = JudgesLine end at (call_at at.lines line) (λ call. ⊥)
EndsHere read.Rest end at line = end ≡ end_at at line
EndsHere read.TooLong end at line = end ≡ bad_line at TooLong
EndsHere read.Failed end at line = end ≡ ReadFault

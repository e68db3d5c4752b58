use Rattle.std.proofs.Common.{◌≤◌, ◌-◌}
use Rattle.std.specs.Io.KnownBytes.{prepend_known}
use Rattle.qn_base.specs.Plans.{Plan}
use Rattle.qn_live.specs.Running.{Ran}
use Rattle.qn_audit.specs.Auditing.{IsJudging, LogEnds, StandsFor, at_first}
use Rattle.qn_audit.specs.Deciding.{Leads}
use Rattle.qn_audit.specs.Taking.{standing}
use Rattle.qn_audit.proofs.log.audit_log.Given as goal

abbrev pub invariant-lines : goal.invariant-lines
invariant-lines g l = record {
  judging : IsJudging l.auditor;
  led : (plan : Plan Ran) → StandsFor l.fn.auditor plan
      → (now : Plan Ran) × StandsFor l.auditor now
      × Leads (LogEnds (at_first plan l.fn.head)) (LogEnds (standing l.place now))
      (prepend_known l.fn.pieces (g.I.Source.left l.fn.input)) (prepend_known l.pieces (g.I.Source.left l.input));
  source : g.I.Source.faults l.fn.input ≤ g.I.Source.faults l.input;
}

abbrev pub decreases-lines : goal.decreases-lines
decreases-lines g l = 2000001 - l.place.lines

use Rattle.qn_audit.specs.AuditLaws.{audit_fits, one_audit}
use Rattle.qn_audit.proofs.laws.law_one_audit.Goals as goal

pub returns : goal.returns
returns c = record { one = one_audit; fits = audit_fits }

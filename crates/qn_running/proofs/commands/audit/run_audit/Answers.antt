use Rattle.std.proofs.Common.{arith}
use Rattle.qn_running.proofs.AuditEnds.{audits}
use Rattle.qn_running.proofs.commands.audit.run_audit.Goals as goal

pub returns : goal.returns
returns g c = λ env.
    audits c.args.words.now _ _ _
    (record { end = c.audit-end.result; judges = c.audit-end.ensures.judges; says = c.finish_audit.ensures.says })
    (record { source = c.audit-end.ensures.never_falls; sink = c.finish_audit.ensures.sink_faults; env = omega arith })

use Rattle.qn_live.specs.Asking.{question_of}
use Rattle.qn_audit.proofs.auditor.Auditor.verdict.Goals as goal

pub returns-in-Ok-clause-verdict : goal.returns-in-Ok-clause-verdict
returns-in-Ok-clause-verdict c = λ plan stands.
    (question_of c.in-Ok.field-0 c.asks.new.room, c.in-Ok.ensures.asked plan stands)

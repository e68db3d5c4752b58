use Rattle.qn_joined.proofs.TripleTells.{calls_answer}
use Rattle.qn_joined.proofs.triple_laws.law_triple_calls.Goals as goal

pub returns : goal.returns
returns c = λ s t.
    calls_answer s t
    (record { writes = c.law_triple_writes.ensures s; check = c.law_triple_check.ensures s; header = c.law_triple_answers.ensures.header s; slot = c.law_triple_answers.ensures.slot s; mailbox = c.law_triple_answers.ensures.mailbox s })

use Rattle.qn_sched.proofs.PartsLemmas.{parts-some}
use Rattle.qn_sched.proofs.words.no_more_words.Goals as goal

pub returns-in-Some-clause-some : goal.returns-in-Some-clause-some
returns-in-Some-clause-some c = rw c.in-Some.is (parts-some 32 c.in-Some.field-0.now)

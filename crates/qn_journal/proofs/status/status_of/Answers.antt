use Rattle.qn_journal.proofs.Said.{said}
use Rattle.qn_journal.proofs.status.status_of.Goals as goal

pub returns-in-Some : goal.returns-in-Some
returns-in-Some c = said c.args.seen.now c.in-Some.shown c.in-Some.ensures c.of.result c.of.ensures.text

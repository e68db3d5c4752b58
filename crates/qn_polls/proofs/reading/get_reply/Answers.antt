use Rattle.qn_polls.proofs.Spelling.{reply_found, no_reply_found}
use Rattle.qn_polls.proofs.reading.get_reply.Goals as goal

pub returns-clause-some : goal.returns-clause-some
returns-clause-some c = reply_found _ _ c.read_reply.ensures

pub returns-clause-none : goal.returns-clause-none
returns-clause-none c = no_reply_found _ _ c.read_reply.ensures

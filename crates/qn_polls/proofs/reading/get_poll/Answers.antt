use Rattle.qn_polls.proofs.Spelling.{poll_found, no_poll_found}
use Rattle.qn_polls.proofs.reading.get_poll.Goals as goal

pub returns-clause-some : goal.returns-clause-some
returns-clause-some c = poll_found _ _ c.read_poll.ensures

pub returns-clause-none : goal.returns-clause-none
returns-clause-none c = no_poll_found _ _ c.read_poll.ensures

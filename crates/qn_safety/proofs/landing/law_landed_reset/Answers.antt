use Rattle.qn_safety.proofs.ResetLanding.{landed_ends, landed_mailbox}
use Rattle.qn_safety.proofs.landing.law_landed_reset.Goals as goal

pub returns-clause-mailbox : goal.returns-clause-mailbox
returns-clause-mailbox c = landed_mailbox

pub returns-clause-ended : goal.returns-clause-ended
returns-clause-ended c = landed_ends

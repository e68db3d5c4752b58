use Rattle.qn_image.proofs.Kept.{deadly_there, no_mailbox}
use Rattle.qn_image.proofs.laws.law_kept_messages.Goals as goal

pub returns-clause-deadly_there : goal.returns-clause-deadly_there
returns-clause-deadly_there c = deadly_there

pub returns-clause-no_mailbox : goal.returns-clause-no_mailbox
returns-clause-no_mailbox c = no_mailbox

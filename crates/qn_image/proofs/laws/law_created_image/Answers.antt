use Rattle.qn_image.proofs.Created.{created-header, created-slot, created-mail, created-other}
use Rattle.qn_image.proofs.laws.law_created_image.Goals as goal

pub returns-clause-header : goal.returns-clause-header
returns-clause-header c = created-header

pub returns-clause-slots : goal.returns-clause-slots
returns-clause-slots c = created-slot

pub returns-clause-mailboxes : goal.returns-clause-mailboxes
returns-clause-mailboxes c = created-mail

pub returns-clause-others : goal.returns-clause-others
returns-clause-others c = created-other

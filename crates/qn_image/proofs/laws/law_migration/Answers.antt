use Rattle.qn_image.proofs.MailFaults.{version_2, damaged_mailbox_1}
use Rattle.qn_image.proofs.laws.law_migration.Goals as goal

pub returns-clause-version_2 : goal.returns-clause-version_2
returns-clause-version_2 c = version_2

pub returns-clause-damaged : goal.returns-clause-damaged
returns-clause-damaged c = damaged_mailbox_1

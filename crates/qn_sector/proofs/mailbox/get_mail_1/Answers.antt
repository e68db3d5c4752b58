use Rattle.qn_sector.proofs.MailSpelling.{mail_1_found, no_mail_1_found}
use Rattle.qn_sector.proofs.mailbox.get_mail_1.Goals as goal

pub returns-clause-some : goal.returns-clause-some
returns-clause-some c = mail_1_found _ _ c.read_mail_1.ensures

pub returns-clause-none : goal.returns-clause-none
returns-clause-none c = no_mail_1_found _ _ c.read_mail_1.ensures

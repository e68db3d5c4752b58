use Rattle.qn_sector.proofs.MailSpelling.{mail_found, no_mail_found}
use Rattle.qn_sector.proofs.mailbox.get_mail.Goals as goal

pub returns-clause-some : goal.returns-clause-some
returns-clause-some c = mail_found _ _ c.read_mail.ensures.gives c.read_mail.ensures.sender

pub returns-clause-none : goal.returns-clause-none
returns-clause-none c = no_mail_found _ _ c.read_mail.ensures.gives

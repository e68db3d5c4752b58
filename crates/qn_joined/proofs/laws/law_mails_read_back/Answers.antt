use Rattle.qn_joined.proofs.laws.law_mails_read_back.Goals as goal

pub returns : goal.returns
returns c = c.law_read_back.ensures.mailbox

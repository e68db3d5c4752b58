mod MailReads

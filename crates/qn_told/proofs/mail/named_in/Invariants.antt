use Rattle.std.proofs.Common.{◌≡◌, drop}
use Rattle.qn_told.specs.Mails.{named_in}
use Rattle.qn_told.proofs.mail.named_in.Given as goal

-- none of the sectors so far names a sender of the message
abbrev pub invariant-loop-mail : goal.invariant-loop-mail
invariant-loop-mail l = named_in (drop l.mail-index l.came) l.message ≡ named_in l.came l.message

use Rattle.std.proofs.Common.{subst}
use Rattle.qn_triple.specs.Stepping.{Mails}
use Rattle.qn_triple.proofs.DiskSteps.{AtPlace, mail_turned}
use Rattle.qn_triple.proofs.state.State.set_mailbox.Goals as goal

pub returns : goal.returns
returns c =
    mail_turned c.args.self.now c.mail_at.new.self c.args.i.0 c.args.image c.args.message c.requires.standing c.requires.image
    (subst (λ place. AtPlace c.args.self.now c.mail_at.new.self place (λ own after. Mails own after c.args.i.0 c.args.message)) c.place_of.ensures.place c.mail_at.ensures)

use Rattle.std.proofs.Common.{◌≡◌, subst}
use Rattle.std.specs.Prelude.{Some, slice_get}
use Rattle.qn_triple.proofs.DiskSteps.{sectors_read}
use Rattle.qn_triple.proofs.state.State.mailbox.Goals as goal

pub returns : goal.returns
returns c = λ d is.
    c.mailbox.ensures (λ rank. d.slots rank c.args.image) (λ rank. d.mailboxes rank c.args.image)
    (sectors_read c.args.self.now d c.args.image c.sectors_at-sectors.result.now is c.requires.image
    (subst (λ place. slice_get c.args.self.now.sectors place ≡ Some c.sectors_at-sectors.result.now) c.place_of.ensures.place c.sectors_at-sectors.ensures))

use Rattle.std.proofs.Common.{ap, subst, sym}
use Rattle.qn_cluster.specs.DiskStanding.{SectorsFor}
use Rattle.qn_world.proofs.state.State.mailbox.Goals as goal

pub returns : goal.returns
returns c = λ d is.
    c.mailbox.ensures d.slots d.mailboxes (subst (λ s. SectorsFor s d.slots d.mailboxes) (sym (ap (λ w. w.sectors) c.self.view_is)) is.sectors)

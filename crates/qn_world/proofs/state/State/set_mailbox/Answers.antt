use Rattle.std.proofs.Common.{ap, subst, sym}
use Rattle.qn_cluster.specs.DiskStanding.{SectorsFor}
use Rattle.qn_model.specs.World.{put}
use Rattle.qn_world.specs.Whole.{Whole}
use Rattle.qn_world.proofs.DiskSteps.{sectors_turned}
use Rattle.qn_world.proofs.state.State.set_mailbox.Goals as goal

pub returns : goal.returns
returns c =
    sectors_turned c.args.self.now _ c.set_mailbox.new.self (λ d. d.slots) (λ d. put d.mailboxes c.args.i.0 c.args.message)
    (ap (λ (w : Whole). record w { sectors = c.set_mailbox.new.self }) c.self.view_is)
    (λ d is. c.set_mailbox.ensures d.slots d.mailboxes (subst (λ s. SectorsFor s d.slots d.mailboxes) (sym (ap (λ w. w.sectors) c.self.view_is)) is))

use Rattle.std.proofs.Common.{ap, subst, sym}
use Rattle.qn_cluster.specs.DiskStanding.{SectorsFor}
use Rattle.qn_model.specs.World.{mailboxes_with, slots_with}
use Rattle.qn_world.specs.Whole.{Whole}
use Rattle.qn_world.proofs.DiskSteps.{sectors_turned}
use Rattle.qn_world.proofs.state.State.write.Goals as goal

pub returns : goal.returns
returns c =
    sectors_turned c.args.self.now _ c.write.new.self (λ d. slots_with c.args.i.0 c.args.op d.slots) (λ d. mailboxes_with c.args.i.0 c.args.op d.mailboxes)
    (ap (λ (w : Whole). record w { sectors = c.write.new.self }) c.self.view_is)
    (λ d is. c.write.ensures d.slots d.mailboxes (subst (λ s. SectorsFor s d.slots d.mailboxes) (sym (ap (λ w. w.sectors) c.self.view_is)) is))

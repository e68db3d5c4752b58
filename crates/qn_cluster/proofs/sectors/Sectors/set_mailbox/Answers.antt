use Rattle.qn_cluster.proofs.SectorSteps.{mailbox_put}
use Rattle.qn_cluster.proofs.sectors.Sectors.set_mailbox.Goals as goal

pub returns : goal.returns
returns c = λ slots mailboxes is. mailbox_put c.args.self.now c.put_message.new.self slots mailboxes c.args.i.0 c.args.message is c.requires c.put_message.ensures

use Rattle.std.proofs.Common.{subst, sym}
use Rattle.qn_cluster.proofs.SectorSteps.{Written, writes_claim, writes_close}
use Rattle.qn_cluster.proofs.sectors.Sectors.write.Goals as goal

pub returns-in-WriteClaim : goal.returns-in-WriteClaim
returns-in-WriteClaim c slots mailboxes is =
    writes_claim c.args.self.now c.set_slot.new.self slots mailboxes c.args.i.0 c.args.op c.in-WriteClaim.incarnation is c.requires.within c.in-WriteClaim.is c.set_slot.ensures

pub returns-in-WriteClose : goal.returns-in-WriteClose
returns-in-WriteClose c slots mailboxes is =
    writes_close c.args.self.now c.set_slot-in-WriteClose.new.self slots mailboxes c.args.i.0 c.args.op c.in-WriteClose.incarnation is c.requires.within c.in-WriteClose.is
    c.set_slot-in-WriteClose.ensures

pub returns-in-WriteClear : goal.returns-in-WriteClear
returns-in-WriteClear c slots mailboxes is =
    subst (Written c.set_mailbox.new.self slots mailboxes c.args.i.0) (sym c.in-WriteClear.is) (c.set_mailbox.ensures slots mailboxes is)

pub returns-in-WriteReset : goal.returns-in-WriteReset
returns-in-WriteReset c slots mailboxes is =
    subst (Written c.set_mailbox-in-WriteReset.new.self slots mailboxes c.args.i.0) (sym c.in-WriteReset.is) (c.set_mailbox-in-WriteReset.ensures slots mailboxes is)

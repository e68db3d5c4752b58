use Rattle.std.proofs.Common.{subst}
use Rattle.qn_cluster.specs.Standing.{IsWithin}
use Rattle.qn_cluster.proofs.SectorSteps.{takes_check, takes_claim, takes_clear, takes_close, takes_header, takes_mail, takes_reset, takes_slot}
use Rattle.qn_cluster.proofs.sectors.Sectors.taken.Goals as goal

pub returns-in-ReadHeader : goal.returns-in-ReadHeader
returns-in-ReadHeader c d is = takes_header c.args.self.now c.args.settings.now c.args.timing d c.args.i.0 c.args.op c.header.result c.in-ReadHeader.is c.header.ensures

pub returns-in-ReadSlot : goal.returns-in-ReadSlot
returns-in-ReadSlot c d is =
    takes_slot c.args.self.now c.args.settings.now c.args.timing d c.args.i.0 c.args.op c.in-ReadSlot.other c.slot.result is c.in-ReadSlot.is (subst (IsWithin 32) c.in-ReadSlot.is c.requires.target) c.slot.ensures

pub returns-in-WriteClaim : goal.returns-in-WriteClaim
returns-in-WriteClaim c d is = takes_claim c.args.self.now c.args.settings.now c.args.timing d c.args.i.0 c.args.op c.in-WriteClaim.field-0 c.in-WriteClaim.is

pub returns-in-WriteClear : goal.returns-in-WriteClear
returns-in-WriteClear c d is = takes_clear c.args.self.now c.args.settings.now c.args.timing d c.args.i.0 c.args.op c.in-WriteClear.is

pub returns-in-ReadMail : goal.returns-in-ReadMail
returns-in-ReadMail c d is = takes_mail c.args.self.now c.args.settings.now c.args.timing d c.args.i.0 c.args.op c.mailbox.result c.in-ReadMail.is (c.mailbox.ensures d.slots d.mailboxes is)

pub returns-in-CheckMail : goal.returns-in-CheckMail
returns-in-CheckMail c d is = takes_check c.args.self.now c.args.settings.now c.args.timing d c.args.i.0 c.args.op c.mailbox-in-CheckMail.result c.in-CheckMail.is (c.mailbox-in-CheckMail.ensures d.slots d.mailboxes is)

pub returns-in-WriteReset : goal.returns-in-WriteReset
returns-in-WriteReset c d is = takes_reset c.args.self.now c.args.settings.now c.args.timing d c.args.i.0 c.args.op c.in-WriteReset.other c.in-WriteReset.is

pub returns-in-WriteClose : goal.returns-in-WriteClose
returns-in-WriteClose c d is = takes_close c.args.self.now c.args.settings.now c.args.timing d c.args.i.0 c.args.op c.in-WriteClose.field-0 c.in-WriteClose.is

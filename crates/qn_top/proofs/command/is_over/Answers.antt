use Rattle.std.proofs.Common.{sym}
use Rattle.qn_top.proofs.OptionWords.{parts_there}
use Rattle.qn_top.proofs.command.is_over.Goals as goal

pub returns-in-Some : goal.returns-in-Some
returns-in-Some c = rw c.in-Some.is (sym (parts_there 44 c.in-Some.field-0.now))

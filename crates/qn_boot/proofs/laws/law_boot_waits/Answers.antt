use Rattle.qn_boot.proofs.BootSteps.{check_waits, claim_waits, clear_waits, header_waits, slot_waits}
use Rattle.qn_boot.proofs.laws.law_boot_waits.Goals as goal

pub returns-clause-header : goal.returns-clause-header
returns-clause-header c = header_waits

pub returns-clause-slot : goal.returns-clause-slot
returns-clause-slot c = slot_waits

pub returns-clause-check : goal.returns-clause-check
returns-clause-check c = check_waits

pub returns-clause-claim : goal.returns-clause-claim
returns-clause-claim c = claim_waits

pub returns-clause-clear : goal.returns-clause-clear
returns-clause-clear c = clear_waits

use Rattle.qn_service.proofs.HelloRows.{hellos_are_met}
use Rattle.qn_service.proofs.hellos.law_hellos_are_met.Goals as goal

pub returns : goal.returns
returns c = hellos_are_met

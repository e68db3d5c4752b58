use Rattle.qn_service.proofs.KeptRows.{looks_are_met}
use Rattle.qn_service.proofs.serving.law_looks_are_met.Goals as goal

pub returns : goal.returns
returns c = looks_are_met

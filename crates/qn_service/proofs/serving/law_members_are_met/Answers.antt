use Rattle.qn_service.proofs.ServingRows.{members_are_met}
use Rattle.qn_service.proofs.serving.law_members_are_met.Goals as goal

pub returns : goal.returns
returns c = members_are_met

use Rattle.qn_service.proofs.NextLooks.{looks_follow}
use Rattle.qn_service.proofs.serving.law_looks_follow.Goals as goal

pub returns : goal.returns
returns c = looks_follow

use Rattle.qn_service.proofs.OneView.{looks_serve}
use Rattle.qn_service.proofs.serving.law_looks_serve.Goals as goal

pub returns : goal.returns
returns c = λ s t. looks_serve s t (c.law_members_serve.ensures s t)

use Rattle.qn_service.proofs.LedNodes.{service}
use Rattle.qn_service.proofs.service.law_service.Goals as goal

pub returns : goal.returns
returns c = λ s t. service s t (c.law_leaders_settle.ensures s t) (c.law_nodes_serve.ensures s t)

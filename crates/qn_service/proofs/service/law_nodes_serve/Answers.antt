use Rattle.qn_service.proofs.LedNodes.{nodes_serve}
use Rattle.qn_service.proofs.service.law_nodes_serve.Goals as goal

pub returns : goal.returns
returns c = λ s t. nodes_serve s t (c.law_looks_come_to_agree.ensures s t) (c.law_looks_serve.ensures s t)

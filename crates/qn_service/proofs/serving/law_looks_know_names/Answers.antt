use Rattle.qn_service.proofs.LogViews.{looks_know_names}
use Rattle.qn_service.proofs.serving.law_looks_know_names.Goals as goal

pub returns : goal.returns
returns c = looks_know_names

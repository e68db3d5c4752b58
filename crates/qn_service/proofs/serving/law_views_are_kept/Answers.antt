use Rattle.qn_service.proofs.OneView.{views_are_kept}
use Rattle.qn_service.proofs.serving.law_views_are_kept.Goals as goal

pub returns : goal.returns
returns c = views_are_kept

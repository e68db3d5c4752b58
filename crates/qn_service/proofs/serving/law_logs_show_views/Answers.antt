use Rattle.qn_service.proofs.LogViews.{logs_show_views}
use Rattle.qn_service.proofs.serving.law_logs_show_views.Goals as goal

pub returns : goal.returns
returns c = logs_show_views

use Rattle.qn_service.proofs.Heard.{nobody_heard}
use Rattle.qn_service.proofs.owners.law_nobody_heard_is_reset.Goals as goal

pub returns : goal.returns
returns c = λ s t. nobody_heard s t (c.law_looks_by_the_image.ensures.new s t) (c.law_nobody_is_reset.ensures s t)

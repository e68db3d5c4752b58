use Rattle.qn_service.proofs.Agreeing.{leads_alike}
use Rattle.qn_service.proofs.looks.law_alike_looks_follow_one.Goals as goal

pub returns : goal.returns
returns c = leads_alike

use Rattle.qn_service.proofs.LeftOut.{leaves_out}
use Rattle.qn_service.proofs.looks.law_left_out.Goals as goal

pub returns : goal.returns
returns c = λ m tick view rank under makes out. leaves_out tick m view rank under makes out

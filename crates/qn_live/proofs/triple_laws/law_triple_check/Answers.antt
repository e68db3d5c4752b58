use Rattle.qn_live.proofs.Checks.{check_told}
use Rattle.qn_live.proofs.triple_laws.law_triple_check.Goals as goal

pub returns : goal.returns
returns c = λ s me number calls told follows. check_told s c.law_read_back.ensures.mailbox me number calls told follows

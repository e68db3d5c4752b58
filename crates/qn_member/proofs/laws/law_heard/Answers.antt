use Rattle.qn_member.proofs.Heard.{heard_by_calls, seen_by_calls}
use Rattle.qn_member.proofs.laws.law_heard.Goals as goal

pub returns-clause-heard : goal.returns-clause-heard
returns-clause-heard c = λ run tick rank few. heard_by_calls run tick rank few

pub returns-clause-seen : goal.returns-clause-seen
returns-clause-seen c = λ run tick rank few. seen_by_calls run tick rank few

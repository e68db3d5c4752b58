use Rattle.qn_member.proofs.Calls.{greatest_by_calls}
use Rattle.qn_member.proofs.laws.law_greatest.Goals as goal

pub returns : goal.returns
returns c = λ run. greatest_by_calls run.settings run.me run.loop_ms run.calls

use Rattle.qn_member.proofs.Calls.{change_by_calls, differs_by_calls}
use Rattle.qn_member.proofs.laws.law_changes.Goals as goal

pub returns-clause-change : goal.returns-clause-change
returns-clause-change c = λ run change is. change_by_calls run change is

pub returns-clause-differs : goal.returns-clause-differs
returns-clause-differs c = λ run rank since below is. differs_by_calls run rank since below is

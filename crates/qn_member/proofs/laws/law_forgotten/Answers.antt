use Rattle.qn_member.proofs.Follows.{lost_by_calls, seen_before}
use Rattle.qn_member.proofs.laws.law_forgotten.Goals as goal

pub returns-clause-lost : goal.returns-clause-lost
returns-clause-lost c = λ run rank configured member. lost_by_calls run rank configured member

pub returns-clause-seen : goal.returns-clause-seen
returns-clause-seen c = λ run. (seen_before run).0

pub returns-clause-says : goal.returns-clause-says
returns-clause-says c = λ run. (seen_before run).1

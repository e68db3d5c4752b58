use Rattle.std.proofs.Common.{refl}
use Rattle.qn_leases.proofs.Standing.{asks_there, goes_on_there}
use Rattle.qn_leases.proofs.laws.law_points.Goals as goal

pub returns-clause-begins : goal.returns-clause-begins
returns-clause-begins c = λ lease turns. refl

pub returns-clause-asks : goal.returns-clause-asks
returns-clause-asks c = λ lease more point plan asked stands next. asks_there lease point more plan asked stands next

pub returns-clause-goes_on : goal.returns-clause-goes_on
returns-clause-goes_on c = λ lease more point plan made stands next. goes_on_there lease point more plan made stands next

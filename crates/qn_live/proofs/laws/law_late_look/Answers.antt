use Rattle.qn_live.proofs.LookingOn.{late_takes_none, look_kept}
use Rattle.qn_live.proofs.laws.law_late_look.Goals as goal

pub returns-clause-none : goal.returns-clause-none
returns-clause-none c = λ me leaves st calls chosen late none follows. late_takes_none me leaves st calls chosen late none follows

pub returns-clause-last : goal.returns-clause-last
returns-clause-last c = λ s me choice st tick calls next follows. look_kept s me choice st tick calls next follows

use Rattle.qn_live.proofs.Histories.{choice_rests, handled_rests}
use Rattle.qn_live.proofs.laws.law_rest.Goals as goal

pub returns-clause-none : goal.returns-clause-none
returns-clause-none c = λ me leaves st calls chosen rests follows. (choice_rests me leaves st calls chosen rests follows).0

pub returns-clause-waits : goal.returns-clause-waits
returns-clause-waits c = λ me leaves st calls chosen rests follows. (choice_rests me leaves st calls chosen rests follows).1

pub returns-clause-next : goal.returns-clause-next
returns-clause-next c = λ s me st tick found calls next follows. handled_rests s me st tick found calls next follows

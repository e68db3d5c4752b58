use Rattle.qn_candidate.proofs.Numbers.{next_is_none, plain_is_none}
use Rattle.qn_candidate.proofs.laws.law_plain_numbers.Goals as goal

pub returns-clause-without : goal.returns-clause-without
returns-clause-without c = λ number. plain_is_none number

pub returns-clause-next : goal.returns-clause-next
returns-clause-next c = λ number none. next_is_none number none

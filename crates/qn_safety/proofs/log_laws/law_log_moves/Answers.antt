use Rattle.qn_safety.proofs.Events.{moments_grow}
use Rattle.qn_safety.proofs.LogMoves.{log_move}
use Rattle.qn_safety.proofs.log_laws.law_log_moves.Goals as goal

pub returns-clause-moments : goal.returns-clause-moments
returns-clause-moments c = λ s t earlier events back. moments_grow s t back

pub returns-clause-log : goal.returns-clause-log
returns-clause-log c = log_move

use Rattle.qn_group.proofs.Kept.{quiet-after_stop, quiet-before_start}
use Rattle.qn_group.proofs.laws.law_nothing_unheld.Goals as goal

pub returns-clause-after_stop : goal.returns-clause-after_stop
returns-clause-after_stop c = quiet-after_stop

pub returns-clause-before_start : goal.returns-clause-before_start
returns-clause-before_start c = quiet-before_start

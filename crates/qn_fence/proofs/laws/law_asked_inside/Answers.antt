use Rattle.qn_fence.proofs.Asked.{inside-none, inside-read, inside-all}
use Rattle.qn_fence.proofs.laws.law_asked_inside.Goals as goal

pub returns-clause-none : goal.returns-clause-none
returns-clause-none c = inside-none

pub returns-clause-more : goal.returns-clause-more
returns-clause-more c = inside-read

pub returns-clause-all : goal.returns-clause-all
returns-clause-all c = inside-all

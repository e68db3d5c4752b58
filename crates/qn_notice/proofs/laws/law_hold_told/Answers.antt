use Rattle.std.proofs.Common.{[]}
use Rattle.qn_model.specs.Holding.{holds}
use Rattle.qn_notice.specs.Laws.{hold_in}
use Rattle.qn_notice.proofs.Leading.{journal_leads}
use Rattle.qn_notice.proofs.Words.{hold_once}
use Rattle.qn_notice.proofs.laws.law_hold_told.Goals as goal

pub returns-clause-once : goal.returns-clause-once
returns-clause-once c = λ before after entry outs. hold_once before after entry outs

pub returns-clause-journal : goal.returns-clause-journal
unfolding holds
returns-clause-journal c = λ s me history. journal_leads (λ stood. stood.holds) hold_in hold_once s me [] history

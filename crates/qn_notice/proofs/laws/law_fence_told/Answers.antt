use Rattle.std.proofs.Common.{[]}
use Rattle.qn_notice.proofs.Growing.{journal_resets}
use Rattle.qn_notice.proofs.Words.{reset_once}
use Rattle.qn_notice.proofs.laws.law_fence_told.Goals as goal

pub returns-clause-once : goal.returns-clause-once
returns-clause-once c = λ before after entry outs. reset_once before after entry outs

pub returns-clause-journal : goal.returns-clause-journal
returns-clause-journal c = λ s me history. journal_resets s me [] history

use Rattle.std.proofs.Common.{[]}
use Rattle.qn_notice.proofs.Growing.{journal_grows}
use Rattle.qn_notice.proofs.laws.law_journal_grows.Goals as goal

pub returns : goal.returns
returns c = λ s me history entry. journal_grows s me [] history entry

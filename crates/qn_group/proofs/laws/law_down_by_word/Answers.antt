use Rattle.qn_group.proofs.Kept.{asked-between, down-between_word, down-from_word}
use Rattle.qn_group.proofs.laws.law_down_by_word.Goals as goal

pub returns-clause-first : goal.returns-clause-first
returns-clause-first c = down-from_word

pub returns-clause-begun : goal.returns-clause-begun
returns-clause-begun c = down-between_word

pub returns-clause-asked_since : goal.returns-clause-asked_since
returns-clause-asked_since c = asked-between

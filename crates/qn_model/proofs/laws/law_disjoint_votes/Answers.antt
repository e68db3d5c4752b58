use Rattle.qn_model.proofs.Majority.{disjoint_votes-le, expected_votes-ge}
use Rattle.qn_model.proofs.laws.law_disjoint_votes.Goals as goal

pub returns-clause-together : goal.returns-clause-together
returns-clause-together c = λ nodes left right apart. disjoint_votes-le left right apart 0 nodes

pub returns-clause-expected : goal.returns-clause-expected
returns-clause-expected c = expected_votes-ge

use Rattle.qn_model.proofs.Majority.{disjoint_views}
use Rattle.qn_model.proofs.VoteLists.{disjoint_histories}
use Rattle.qn_model.proofs.laws.law_disjoint_views.Goals as goal

pub returns-clause-lists : goal.returns-clause-lists
returns-clause-lists c = disjoint_views

pub returns-clause-histories : goal.returns-clause-histories
returns-clause-histories c = disjoint_histories

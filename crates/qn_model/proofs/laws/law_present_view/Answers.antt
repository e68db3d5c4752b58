use Rattle.qn_model.specs.lemmas.VoteLists.{present_view-votes}
use Rattle.qn_model.proofs.laws.law_present_view.Goals as goal

pub returns : goal.returns
returns c = present_view-votes

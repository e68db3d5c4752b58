use Rattle.qn_service.proofs.Followers.{takes_view}
use Rattle.qn_service.proofs.looks.law_followers_take_it.Goals as goal

pub returns : goal.returns
returns c = takes_view

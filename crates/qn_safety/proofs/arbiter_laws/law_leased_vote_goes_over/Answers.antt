use Rattle.qn_safety.proofs.ArbiterPremises.{vote_goes_over}
use Rattle.qn_safety.proofs.arbiter_laws.law_leased_vote_goes_over.Goals as goal

pub returns : goal.returns
returns c = vote_goes_over

use Rattle.qn_service.proofs.Made.{made_or_taken}
use Rattle.qn_service.proofs.looks.law_made_or_taken.Goals as goal

pub returns : goal.returns
returns c = λ m tick view found. made_or_taken tick m view found

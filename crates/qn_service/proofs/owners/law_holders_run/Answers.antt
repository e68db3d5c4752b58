use Rattle.qn_service.proofs.Holders.{holders_run}
use Rattle.qn_service.proofs.owners.law_holders_run.Goals as goal

pub returns : goal.returns
returns c = holders_run

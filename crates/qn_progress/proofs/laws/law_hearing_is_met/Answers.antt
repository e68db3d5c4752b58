use Rattle.qn_progress.proofs.HearingRows.{hears_and_takes_over}
use Rattle.qn_progress.proofs.laws.law_hearing_is_met.Goals as goal

pub returns : goal.returns
returns c = hears_and_takes_over

use Rattle.qn_model.specs.CountEnding.{count_fits}
use Rattle.qn_model.proofs.count_rows.law_count_ending.Goals as goal

pub returns : goal.returns
returns c = count_fits

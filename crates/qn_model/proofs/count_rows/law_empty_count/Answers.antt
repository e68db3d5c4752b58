-- The worked row computes.
use Rattle.std.proofs.Common.{refl}
use Rattle.std.specs.Fmt.{digits}
use Rattle.qn_model.specs.CountText.{end_of_input, last_line}
use Rattle.qn_model.proofs.count_rows.law_empty_count.Goals as goal

pub returns : goal.returns
unfolding digits end_of_input last_line
returns c = refl

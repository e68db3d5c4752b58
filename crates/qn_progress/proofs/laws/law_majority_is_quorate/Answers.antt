use Rattle.qn_progress.proofs.Majority.{majority_quorate}
use Rattle.qn_progress.proofs.laws.law_majority_is_quorate.Goals as goal

pub returns : goal.returns
returns c = λ s set log given tick majority sees same. majority_quorate s set log given tick majority sees same

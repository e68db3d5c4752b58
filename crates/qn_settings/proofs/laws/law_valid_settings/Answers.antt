use Rattle.std.proofs.Common.{refl}
use Rattle.qn_settings.specs.Answer.{answer_of}
use Rattle.qn_settings.proofs.Answering.{valid_when}
use Rattle.qn_settings.proofs.laws.law_valid_settings.Goals as goal

pub returns : goal.returns
returns c = λ tree. valid_when tree (answer_of tree) refl
